-- Where a file stands.
use Rattle.std.proofs.Common.{◌≡◌, ℕ, ◌+◌, ◌<◌, true, false, cond, List, ◌∷◌, length, drop, get_or, Some, sym, ◌∙◌, ap, refl, string_bytes, drop-cons, add-one}
use Rattle.std.specs.Cmp.Lexicographic.{texts_ties, nat_list_cmp_total}
use Rattle.std.proofs.lemmas.Cmp.{eq_by_cmp_equiv}
use Rattle.std.specs.Option.{option_map}
use Rattle.std.proofs.lemmas.Option.{slice_get_read}
use lib.Dec.{eqb}
use lib.Pointwise.{pointwise}
use Rattle.std.specs.FinMap as map
use Rattle.hic_io.specs.MemFiles.{files_of, FoundAt}
use Rattle.hic_io.specs.declared.mem_files.MemFile.{MemFile}

first_file : (f : MemFile) (rest : List MemFile) (name : List ℕ) → map.get (files_of (f ∷ rest)) name ≡ cond (pointwise eqb (string_bytes f.name) name) (Some f.bytes.items) (map.get (files_of rest) name)
first_file f rest name =
    map.get-insert nat_list_cmp_total (files_of rest) (string_bytes f.name) f.bytes.items name
    ∙ ap (λ b. cond b (Some f.bytes.items) (map.get (files_of rest) name))
    ((eq_by_cmp_equiv nat_list_cmp_total).symm name (string_bytes f.name) ∙ sym (texts_ties (string_bytes f.name) name))

module _ (files : List MemFile) (name : List ℕ) (i : ℕ) (f : MemFile) (in_range : i < length files) (is : f ≡ get_or files i f) where
  front : drop i files ≡ get_or files i f ∷ drop (i + 1) files
  front = rw add-one (drop-cons files i f in_range)

  at_i : map.get (files_of (drop i files)) name ≡ cond (pointwise eqb (string_bytes f.name) name) (Some f.bytes.items) (map.get (files_of (drop (i + 1) files)) name)
  at_i = ap (λ fs. map.get (files_of fs) name) (front ∙ ap (λ g. g ∷ drop (i + 1) files) (sym is)) ∙ first_file f (drop (i + 1) files) name

  pub passed : pointwise eqb (string_bytes f.name) name ≡ false → map.get (files_of (drop i files)) name ≡ map.get (files_of files) name → map.get (files_of (drop (i + 1) files)) name ≡ map.get (files_of files) name
  passed other so_far = sym (at_i ∙ ap (λ b. cond b (Some f.bytes.items) (map.get (files_of (drop (i + 1) files)) name)) other) ∙ so_far

  pub found : pointwise eqb (string_bytes f.name) name ≡ true → map.get (files_of (drop i files)) name ≡ map.get (files_of files) name → FoundAt files name i
  found same so_far = record {
    in_range = in_range;
    bytes = sym so_far ∙ at_i ∙ ap (λ b. cond b (Some f.bytes.items) (map.get (files_of (drop (i + 1) files)) name)) same ∙ sym (ap (option_map (λ (g : MemFile). g.bytes.items)) (slice_get_read files (length files) i f refl in_range is));
  }
