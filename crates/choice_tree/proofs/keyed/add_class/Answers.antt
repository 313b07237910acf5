use denote.Ref.{Bor}
use Rattle.std.proofs.Common.{◌≡◌, ◌∙◌, Bool, ap, bytes_eq, map, sym}
use Rattle.std.specs.List.{list_any}
use Rattle.pms_names.specs.Flags.{has}
use Rattle.dep_atom.specs.Values.{AtomValue, atom_value}
use Rattle.dep_atom.specs.declared.atom.Atom.{Atom}
use Rattle.dep_tree.specs.Truth.{counted_leaves}
use Rattle.dep_tree.specs.View.{trees}
use Rattle.pkg_state.specs.Consistent.{leaves_in}
use Rattle.pkg_state.specs.Package.{Package}
use Rattle.choice_tree.specs.Keys.{last_if, lines_at}
use Rattle.choice_tree.proofs.Packages.{any_map}
use Rattle.choice_tree.proofs.keyed.add_class.Goals as goal

pub returns : goal.returns
returns c text =
    let owner = c.args.owner.now in
    let named = λ (a : AtomValue). bytes_eq text a.name.«package» in
    let those : map (λ (a : Bor Atom). atom_value a.now) c.deref.result.now ≡ leaves_in c.args.class owner =
    ap (map (λ (a : Bor Atom). atom_value a.now)) c.deref.ensures.value
    ∙ (c.in_ok-leaves.ensures
    ∙ (ap (λ (p : Package). counted_leaves p.facts.enabled (trees c.tree.result.now)) c.owner.view_is
    ∙ ap (counted_leaves owner.facts.enabled) c.tree.ensures)) in
    c.in_ok-add_leaves.ensures text
    ∙ ap (λ (b : Bool). last_if b c.args.line (lines_at c.args.lists.now text))
    (sym (any_map named (λ (a : Bor Atom). atom_value a.now) c.deref.result.now) ∙ ap (list_any named) those)
