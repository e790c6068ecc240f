-- Labels as they lie in a map.
use Rattle.std.proofs.Common.{◌≡◌, ℕ, Bool, true, false, cond, List, [], ◌∷◌, map, Option, Some, None, Bor, bytes_eq, option_map, is_some, ◌++◌, Ok, refl, ap, sym, ◌∙◌}
use Rattle.std.specs.Map.{lookup}
use Rattle.indexmap.specs.IndexMap.{insert_entry}
use Rattle.hic_asm.specs.declared.error.Fault.TheVariants.{LabelTwice}
use Rattle.hic_asm.specs.Lines.{Defines}
use Rattle.hic_asm.specs.Assembly.{Named, named, Seen, index_named, defined_by, unless}

-- a map's entries as labels
abbrev pub labels_of : List (Bor (List ℕ) × ℕ) → List Named
labels_of entries = map (λ e. named e.0.now e.1) entries

choice : (b : Bool) (name : List ℕ) (index : ℕ) (found : Option Named) (further : Option ℕ) → option_map (λ label. label.index) found ≡ further → option_map (λ label. label.index) (cond b (Some (named name index)) found) ≡ cond b (Some index) further
choice true name index found further e = refl
choice false name index found further e = e

-- a label is found as its key is
pub index_named-lookup : (entries : List (Bor (List ℕ) × ℕ)) (name : List ℕ) → index_named (labels_of entries) name ≡ lookup (λ k. bytes_eq name k.now) entries
index_named-lookup [] name = refl
index_named-lookup (e ∷ es) name = choice (bytes_eq name e.0.now) e.0.now e.1 _ _ (index_named-lookup es name)

-- a key of a map is another's if their bytes are
abbrev pub same_key : Bor (List ℕ) → Bor (List ℕ) → Bool
same_key q k = bytes_eq q.now k.now

absent_first : (b : Bool) (x : Named) (found : Option Named) → option_map (λ label. label.index) (cond b (Some x) found) ≡ None → (b ≡ false) × (option_map (λ label. label.index) found ≡ None)
absent_first true x found none = absurd (cc)
absent_first false x found none = (refl, none)

-- a new label goes last
pub labels_of-insert : (entries : List (Bor (List ℕ) × ℕ)) (name : Bor (List ℕ)) (index : ℕ) → index_named (labels_of entries) name.now ≡ None
    → labels_of (insert_entry same_key entries name index) ≡ labels_of entries ++ named name.now index ∷ []
labels_of-insert [] name index none = refl
labels_of-insert (e ∷ es) name index none =
    let absent = absent_first (bytes_eq name.now e.0.now) (named e.0.now e.1) _ none in
    ap (λ b. labels_of (cond b ((e.0, index) ∷ es) (e ∷ insert_entry same_key es name index))) absent.0
    ∙ ap (λ rest. named e.0.now e.1 ∷ rest) (labels_of-insert es name index absent.1)

none_from : {X : Type 0} (o : Option X) → is_some o ≡ false → o ≡ None
none_from None h = refl
none_from (Some x) h = absurd (cc)

-- a label that is not there yet is defined
pub defined_by-label : (s : Seen) (name : Bor (List ℕ)) (labels : List Named) → is_some (index_named s.labels name.now) ≡ false → labels ≡ s.labels ++ named name.now s.code ∷ []
    → defined_by s (Defines name.now) ≡ Ok (record s { labels = labels })
unfolding defined_by
defined_by-label s name labels new more =
    ap (λ b. unless (cond b (Some LabelTwice) None) (record s { labels = s.labels ++ named name.now s.code ∷ [] })) new
    ∙ ap (λ all. Ok (record s { labels = all })) (sym more)

pub label_absent : (labels : List Named) (name : List ℕ) (found : Option ℕ) → found ≡ index_named labels name → is_some found ≡ false → index_named labels name ≡ None
label_absent labels name found is absent = none_from (index_named labels name) (ap is_some (sym is) ∙ absent)
