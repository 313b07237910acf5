use Rattle.std.proofs.Common.{◌≡◌, Bor, List, None, Option, Some, ap, map, rules, subst, sym}
use Rattle.std.specs.Option.{option_map}
use Rattle.std.specs.Prelude.{IfOk, IsTrue}
use Rattle.std.proofs.lemmas.Result.{IfOk-weaker}
use Rattle.dep_atom.specs.Values.{AtomValue, atom_value}
use Rattle.plan_lives.specs.Index.{all_lives, plan_of}
use Rattle.plan_check.specs.Kept.{AreClear, IsClearToo}
use Rattle.plan_check.specs.declared.blocked.Keeping.{Keeping}
use Rattle.plan_check.proofs.blocked.are_clear.Goals as goal

pub returns-in-Some : goal.returns-in-Some
returns-in-Some c =
    let plan = plan_of c.args.index.now in
    let xs = all_lives c.args.index.now in
    let k = c.args.keeping.now in
    let other = c.in-Some.other.now in
    let is : option_map (λ (b : Bor Keeping). b.now) c.args.other ≡ Some other = ap (option_map (λ (b : Bor Keeping). b.now)) c.in-Some.is in
    let one = subst (λ (atoms : List AtomValue). AreClear plan xs k atoms) (ap (map (λ atom. atom_value atom.now)) c.deref.ensures.value) (c.in_ok-is_clear.ensures (search rules)) in
    subst (λ (o : Option Keeping). IfOk c.is_clear-in-Some.result (λ clear. IsTrue clear → IsClearToo plan xs k o)) (sym is)
    (IfOk-weaker c.is_clear-in-Some.result (λ clear. IsTrue clear → AreClear plan xs other (map (λ atom. atom_value atom.now) c.deref-in-Some.result.now)) (λ clear. IsTrue clear → IsClearToo plan xs k (Some other)) (λ clear h t. record {
      one = one;
      too = subst (λ (atoms : List AtomValue). AreClear plan xs other atoms) (ap (map (λ atom. atom_value atom.now)) c.deref-in-Some.ensures.value) (h t);
    }) c.is_clear-in-Some.ensures)

pub returns-in-None : goal.returns-in-None
returns-in-None c t =
    let plan = plan_of c.args.index.now in
    let xs = all_lives c.args.index.now in
    let k = c.args.keeping.now in
    let is : option_map (λ (b : Bor Keeping). b.now) c.args.other ≡ None = ap (option_map (λ (b : Bor Keeping). b.now)) c.in-None.is in
    subst (λ (o : Option Keeping). IsClearToo plan xs k o) (sym is) (record {
      one = subst (λ (atoms : List AtomValue). AreClear plan xs k atoms) (ap (map (λ atom. atom_value atom.now)) c.deref.ensures.value) (c.in_ok-is_clear.ensures (search rules));
      too = tt;
    })
