-- From a site's promise to what its run left.
use Rattle.std.proofs.Common.{◌≡◌, ◌∙◌, ℕ, Bool, List, [], Result, refl, sym, ap, subst, map, length}
use Rattle.std.specs.Prelude.{IsTrue}
use Rattle.std.proofs.lemmas.List.{length-replicate}
use Rattle.file_tree.specs.Disk.{Map, Story}
use Rattle.file_tree.specs.Moments.{Leaves, Since}
use Rattle.file_tree.proofs.Moments.{since_weaker}
use Rattle.owner_book.specs.Book.{Book, owner_in}
use Rattle.owner_book.specs.declared.wish.Wish.{Wish}
use Rattle.merge_core.specs.CoreValue.{CoreValue, machine_of}
use Rattle.merge_core.specs.Roll.{Machine, RecoversCommitted, committed, idle, resting}
use Rattle.merge_core.specs.Trail.{Entry, machine_after}
use Rattle.merge_site.specs.Booking.{wishes_at}
use Rattle.merge_site.specs.Site.{SiteValue, IsHeld, IsOpened, StoodDuring}
use Rattle.merge_site.specs.declared.group.SiteGroup.{SiteGroup}
use Rattle.merge_group.specs.Applied.{RecoversWith, number}
use Rattle.merge_group.specs.Through.{HasEnded, IsThrough}
use Rattle.merge_group.specs.Turns.{AreFirst}
use Rattle.merge_group.specs.Went.{DroveWith}
use Rattle.merge_group.specs.Working.{AreInTurn}
use Rattle.merge_group.specs.declared.stop.Stop.{Stop}
use Rattle.merge_group.specs.declared.turn.Turn.{Turn}
use Rattle.merge_site.proofs.Booked.{unwished}
use Rattle.merge_group.proofs.Rest.{shut_if_over}
use Rattle.merge_group.proofs.Stood.{committed_rests, one_gate}

stood_fresh : (opening : Map) (b : Book) (groups : List SiteGroup) (c : Map) → StoodDuring opening idle [] c → RecoversWith (AreFirst opening b groups []) opening [] c
stood_fresh opening b groups c stands = record {
  groups = committed idle.roll c;
  of = record { first = []; rest = []; split = refl; are = committed_rests opening idle.roll c (λ g h other. refl) stands; let_in = tt };
  has = λ n none. absurd none;
  is = (stands.recovers, one_gate opening 0 idle.roll c (λ h other. refl) stands);
}

-- a site that was just opened is through with no turn
pub through_none : {T S : Type 0} (tells : Bool) (opening : Map) (a : SiteValue T S) (b : Book) (groups : List SiteGroup) → IsOpened a b groups → machine_after idle a.events ≡ machine_of a.keeping → IsThrough tells opening [] a
through_none tells opening a b groups opened leads = record {
  run = record { leads = leads; turns = subst (λ (l : List Entry). AreInTurn idle l) (sym opened.events) tt };
  going = ap (λ (k : CoreValue). k.stopped) opened.keeping;
  order = ap (λ (k : CoreValue). k.order) opened.keeping;
  told = λ h none. absurd none;
  rest = λ h not. ap (λ (m : Machine). m.roll.standing h) (sym leads ∙ ap (machine_after idle) opened.events);
  unwished = λ h not. ap (λ (l : List (List Wish)). wishes_at l h) opened.wishes ∙ unwished (length groups) h;
  owners = λ q. ap (λ (k : Book). owner_in k.owned q) (opened.book ∙ sym opened.opened_book);
  let_in = λ tl. tt;
  stood = λ tl c during. stood_fresh opening a.opened_book a.groups c (subst (λ (l : List Entry). StoodDuring opening idle l c) opened.events during);
}

pub drove : {T S A : Type 0} (tells : Bool) (turns : List Turn) (b : SiteValue T S) (start new : Story) (history : List ℕ) (end : Result A Stop) → IsTrue tells → HasEnded tells start.now.holds turns b end → history ≡ map number b.keeping.order
    → IsHeld b.keeping b.events start new → Leaves (RecoversCommitted start.now.holds (machine_of b.keeping).roll) new.now → Since (StoodDuring start.now.holds idle b.events) start new
    → DroveWith (AreFirst start.now.holds b.opened_book b.groups turns) start new history end
drove tells turns b start new history end tl ended is held stands moments =
    let opening = start.now.holds in
    let Run = AreFirst opening b.opened_book b.groups turns in
    record {
      moments = since_weaker (StoodDuring opening idle b.events) (RecoversWith Run opening []) (ended.stood tl) start new moments;
      crash = λ c image. subst (λ (l : List ℕ). RecoversWith Run opening l c) (sym is) (ended.crash tl c (stands c image));
      shut = λ healthy. (b.keeping.order, ended.order tl, (sym is, shut_if_over opening (machine_of b.keeping) new.now held.order (ended.shut healthy)));
    }

pub opened_count : {T S : Type 0} (a : SiteValue T S) (b : Book) (groups : List SiteGroup) → IsOpened a b groups → length a.keeping.standings ≡ length a.groups
opened_count a b groups opened = ap (λ (k : CoreValue). length k.standings) opened.keeping ∙ (length-replicate (length groups) resting ∙ sym (ap length opened.brings))
