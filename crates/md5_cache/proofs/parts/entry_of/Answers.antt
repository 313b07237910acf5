use Rattle.std.proofs.Common.{refl, subst, sym}
use Rattle.md5_cache.specs.Entries.{TellsFacts}
use Rattle.md5_cache.proofs.parts.entry_of.Goals as goal

pub returns : goal.returns
returns c =
    let facts : TellsFacts c.args.pairs.now c.args.id (record {
      id = c.args.id;
      slot = c.in_ok-slots.slots.slot;
      subslot = c.in_ok-slots.slots.subslot;
      iuse = c.in_ok-iuse.iuse.flags;
      enabled = c.new.result;
    }) = record {
      named = refl;
      slots = c.in_ok-slots.ensures;
      known = c.in_ok-iuse.ensures.known;
      none_on = c.new.ensures;
    } in record {
      facts = subst (TellsFacts c.args.pairs.now c.args.id) (sym c.in_ok-pkg.ensures.facts) facts;
      needs = c.in_ok-pkg.ensures.needs;
      on = c.in_ok-iuse.ensures.on;
      keywords = c.in_ok-keywords.ensures;
    }
