-- When the packages of all folders are the map's database, and which fault is its first.
use Rattle.std.proofs.Common.{◌≡◌, ◌∙◌, ℕ, List, [], ◌∷◌, map, refl, ap, sym, subst, inl, inr}
use Rattle.std.proofs.lemmas.Cmp.{nat_list_cmp_total}
use Rattle.basics.specs.Members.{Has}
use Rattle.basics.proofs.Membership.{has-append_cases, has-append_right, has-map, has-map_back}
use Rattle.basics.proofs.Texts.{less_one_way, not_less}
use Rattle.basics.proofs.Sorted.{same_sorted}
use Rattle.pms_names.specs.Flags.{IsRising}
use Rattle.file_tree.specs.Disk.{Map}
use Rattle.vdb_paths.specs.Files.{package_file_path}
use Rattle.vdb_law.specs.Database.{IsDatabase, folder, folder_name}
use Rattle.vdb_law.specs.Packages.{Installed, id_of}
use Rattle.vdb_law.proofs.Places.{mark, says_mark}
use Rattle.vdb_overlap.proofs.Sets.{behind_later}
use Rattle.vdb_text.specs.Faults.{IsFirstBadFolder, IsFirstOf}
use Rattle.vdb_text.specs.Folders.{AreFolders, folder_text}
use Rattle.vdb_text.specs.Telling.{TellAll, Tells}
use Rattle.vdb_text.specs.declared.fault.DatabaseFault.{DatabaseFault}
use Rattle.vdb_text.proofs.Owners.{counted_in, in_folder, own_folder}
use Rattle.vdb_text.proofs.Steps.{teller, told}

module _ (m : Map) (texts : List (List ℕ)) (are : AreFolders m texts) where
  names : (ts : List (List ℕ)) (ps : List Installed) → TellAll m ts ps → ts ≡ map folder_name ps
  names [] [] all = refl
  names [] (p ∷ ps) all = absurd all
  names (t ∷ ts) [] all = absurd all
  names (t ∷ ts) (p ∷ ps) all = ap (λ (x : List ℕ). x ∷ ts) all.0.named ∙ ap (λ (xs : List (List ℕ)). folder_name p ∷ xs) (names ts ps all.1)

  pub is_database : (ps : List Installed) → TellAll m texts ps → IsDatabase m ps
  is_database ps all = record {
    rising = subst IsRising (names texts ps all) are.rising;
    ids = λ p has. (teller m texts ps all p has).1.is;
    says = λ p has. (teller m texts ps all p has).1.says;
    all = λ q c some.
        let text : List ℕ = folder_text c.category c.pf in
        let f = told m texts ps all text ((are.members text).1 (record { path = q; there = some; counted = c; is = refl })) in
        (f.0, f.1, in_folder q c (id_of f.0) f.2.named);
  }

  each_tells : (ps : List Installed) → ((p : Installed) → Has ps p → Tells m (folder_name p) p) → TellAll m (map folder_name ps) ps
  each_tells [] one = tt
  each_tells (p ∷ ps) one = (one p (inl refl), each_tells ps (λ q has. one q (inr has)))

  module _ (ps : List Installed) (db : IsDatabase m ps) where
    is_named : (t : List ℕ) → Has texts t → Has (map folder_name ps) t
    is_named t has =
        let f = (are.members t).0 has in
        let d = db.all f.path f.counted f.there in
        let e : t ≡ folder_name d.0 = f.is ∙ own_folder f.path f.counted (id_of d.0) d.2.0 (db.ids d.0 d.1) d.2.1 in
        subst (λ (x : List ℕ). Has (map folder_name ps) x) (sym e) (has-map folder_name ps d.0 d.1)

    is_listed : (t : List ℕ) → Has (map folder_name ps) t → Has texts t
    is_listed t has =
        let o = has-map_back folder_name ps t has in
        let p = o.0 in
        (are.members t).1 (record {
          path = package_file_path (id_of p) mark;
          there = says_mark (folder m (id_of p)) p (db.says p o.1);
          counted = counted_in (id_of p) mark (db.ids p o.1);
          is = sym o.2;
        })

    pub tell_all : TellAll m texts ps
    tell_all = subst (λ (ts : List (List ℕ)). TellAll m ts ps) (sym (same_sorted nat_list_cmp_total texts (map folder_name ps) are.rising db.rising is_named is_listed))
        (each_tells ps (λ p has. record { is = db.ids p has; named = refl; says = db.says p has }))

  pub first_fault : (e : DatabaseFault) → IsFirstOf m texts e → IsFirstBadFolder m e
  first_fault e f = record {
    text = f.text;
    there = (are.members f.text).0 (subst (λ (l : List (List ℕ)). Has l f.text) (sym f.is) (has-append_right f.front (f.text ∷ f.behind) f.text (inl refl)));
    before = λ t is less. elim (has-append_cases f.front (f.text ∷ f.behind) t (subst (λ (l : List (List ℕ)). Has l t) f.is ((are.members t).1 is))) [
      | inl h ↦ f.before t h
      | inr (inl same) ↦ absurd (not_less t f.text (sym same) less)
      | inr (inr later) ↦ absurd (less_one_way t f.text less (behind_later f.front f.text f.behind t (subst IsRising f.is are.rising) later))
    ];
    has = f.has;
  }
