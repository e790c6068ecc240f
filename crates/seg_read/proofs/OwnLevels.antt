-- The levels below the own entries of a part's quarters, where one quarter alone is not empty.
use Rattle.std.proofs.Common.{◌≡◌, ◌≢◌, ℕ, ◌^◌, ◌%◌, ◌<◌, ◌≤◌, Some, refl, sym, ◌∙◌, ap, subst, arith}
use Rattle.hic_word.specs.Width.{four_wide}
use Rattle.hic_word.specs.declared.Word.{Word}
use Rattle.hic_word.specs.Values.{Array}
use Rattle.hic_word.specs.Entries.{Entry}
use Rattle.hic_word.specs.Parts.{part}
use Rattle.hic_word.specs.Canon.{enc}
use Rattle.hic_word.specs.Names.{named_id}
use Rattle.hic_word.specs.Stands.{EntryFor, IdFor, Lookup, NamedEntry, PackEntry, ZeroEntry, node_bits}
use Rattle.hic_word.proofs.callers.Bits.{node_id, id_fits}
use Rattle.hic_word.proofs.callers.Forms.{EntryFits, EntryFits-part}
use Rattle.hic_word.proofs.callers.Standing.{one_value}
use Rattle.seg_canon.specs.declared.parts.Part.{Part}
use Rattle.seg_canon.specs.Opens.{IsOne}
use Rattle.seg_canon.specs.Parts.{PartFor}
use Rattle.seg_read.specs.Levels.{levels, levels_of}
use Rattle.seg_read.proofs.Levels.{levels-empty}

-- entries whose words name one line, or none, have as many levels
same_levels : {m : Lookup} {x y : Word} {e d : Entry} → EntryFor 4 m x e → EntryFits 4 e → EntryFor 4 m y d → EntryFits 4 d → named_id x ≡ named_id y → levels e ≡ levels d
unfolding EntryFits
same_levels (ZeroEntry a) k (ZeroEntry b) l n = refl
same_levels (ZeroEntry a) k (PackEntry b) l n = refl
same_levels (ZeroEntry a) k (NamedEntry j b) l n = let none = ap named_id a in let some = ap named_id b in cc
same_levels (PackEntry a) k (ZeroEntry b) l n = refl
same_levels (PackEntry a) k (PackEntry b) l n = refl
same_levels (PackEntry a) k (NamedEntry j b) l n = let none = ap named_id a in let some = ap named_id b in cc
same_levels (NamedEntry i a) k (ZeroEntry b) l n = let some = ap named_id a in let none = ap named_id b in cc
same_levels (NamedEntry i a) k (PackEntry b) l n = let some = ap named_id a in let none = ap named_id b in cc
same_levels {m} (NamedEntry {id = id} {L = L} {p = p} i a) k (NamedEntry {id = other} {L = M} {p = q} j b) l n =
    let named : Some (node_bits 4 id p % 2 ^ 24) ≡ Some (node_bits 4 other q % 2 ^ 24) = sym (ap named_id a) ∙ n ∙ ap named_id b in
    let bits : node_bits 4 id p % 2 ^ 24 ≡ node_bits 4 other q % 2 ^ 24 = cc in
    let ids : other ≡ id = sym (node_id 4 other q (id_fits j)) ∙ sym bits ∙ node_id 4 id p (id_fits i) in
    ap levels_of (one_value four_wide i k.2 (subst (λ o. IdFor 4 m o M) ids j) l.2)

-- the only quarter with a word has as many as the part
pub own_levels : {m : Lookup} {p r : Part} {q : ℕ} {A : Array} → PartFor 4 m p A → IsOne 4 m p q r A → levels (enc 4 r.at (part 4 A p.top q)) ≡ levels (enc 4 p.at A)
own_levels f o = same_levels o.quarter.entry (EntryFits-part four_wide o.quarter.is_part) f.entry (EntryFits-part four_wide f.is_part) o.names
