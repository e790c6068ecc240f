-- What the words of a line name is what the line value names.
use Rattle.std.proofs.Common.{◌≡◌, ℕ, ◌+◌, ◌*◌, ◌%◌, ◌^◌, ◌<◌, List, map, length, Some, refl, ◌∙◌, ap, subst, inl, inr, arith}
use Rattle.std.proofs.Math.Arith.{digits_mod}
use Rattle.hic_word.specs.declared.Kind.{Kind}
use Rattle.hic_word.specs.declared.Word.{Word}
use Rattle.hic_word.specs.Lists.{In}
use Rattle.hic_word.specs.Values.{Value}
use Rattle.hic_word.specs.Entries.{Entries, Entry, LineValue, entries}
use Rattle.hic_word.specs.Heights.{height}
use Rattle.hic_word.specs.Lines.{children, found, line_of_entry, line_of_value}
use Rattle.hic_word.specs.Names.{Names, id_if, named_id}
use Rattle.hic_word.specs.Stands.{AWord, AnEntry, EntriesFor, EntryFor, IdFor, InnerAt, IsEmpty, IsNumber, IsPacked, IsStored, LeafAt, Lookup, NamedEntry, NoEntries, NoWord, PackEntry, WordFor, WordsFor, ZeroEntry, digits_value, node_bits, word_of}
use Rattle.hic_word.proofs.Found.{found_first, found_here, found_later}
use Rattle.hic_word.proofs.Tells.{id_fits, same_line}

-- what is named by a word that stands for a word
pub word_names : {w : ℕ} {m : Lookup} {x : Word} {v : Value} (M : LineValue) → WordFor w m x v → line_of_value w v ≡ Some M → (j : ℕ) × IdFor w m j M
unfolding height
word_names M (IsNumber e) h = cc
word_names M (IsEmpty e) h = cc
word_names M (IsPacked z e) h = let a = ap line_of_entry z in cc
word_names {w} {m} M (IsStored {id = j} {L = L} z i e) h = let a = ap line_of_entry z in let same : L ≡ M = cc in (j, subst (λ K. IdFor w m j K) same i)

entry_names : {w : ℕ} {m : Lookup} {x : Word} {e : Entry} (M : LineValue) → EntryFor w m x e → line_of_entry e ≡ Some M → (j : ℕ) × IdFor w m j M
entry_names M (ZeroEntry e) h = cc
entry_names M (PackEntry e) h = cc
entry_names {w} {m} M (NamedEntry {id = j} {L = L} i e) h = let same : L ≡ M = cc in (j, subst (λ K. IdFor w m j K) same i)

pub words_name : {w : ℕ} {m : Lookup} {xs : List Word} {vs : List Value} (M : LineValue) → WordsFor w m xs vs → In M (found (map (line_of_value w) vs)) → (j : ℕ) × IdFor w m j M
words_name M NoWord h = absurd h
words_name {w} M (AWord {v = v} {vs = vs} d ws) h = elim (found_first M (line_of_value w v) (map (line_of_value w) vs) h) [ inl e ↦ word_names M d e | inr k ↦ words_name M ws k ]

entries_name : {w : ℕ} {m : Lookup} {xs : List Word} {es : Entries} (M : LineValue) → EntriesFor w m xs es → In M (found (map line_of_entry (entries es))) → (j : ℕ) × IdFor w m j M
entries_name M NoEntries h = absurd h
entries_name M (AnEntry {e = e} {es = es} d ws) h = elim (found_first M (line_of_entry e) (map line_of_entry (entries es)) h) [ inl e ↦ entry_names M d e | inr k ↦ entries_name M ws k ]

pub child_id : {w : ℕ} {m : Lookup} {id : ℕ} {L : LineValue} (M : LineValue) → IdFor w m id L → In M (children w L) → (j : ℕ) × IdFor w m j M
child_id M (LeafAt b e ws) h = words_name M ws h
child_id M (InnerAt b e es) h = entries_name M es h

-- the id of a word is in its lowest bits
pub node_id : (w j : ℕ) (p : List ℕ) → j < 2 ^ 24 → node_bits w j p % 2 ^ 24 ≡ j
node_id w j p h =
    let turned : node_bits w j p ≡ (digits_value w p + 2 ^ 35 * length p) * 2 ^ 24 + j = omega arith in
    ap (λ n. n % 2 ^ 24) turned ∙ digits_mod (digits_value w p + 2 ^ 35 * length p) h

pub id_of_kind : {x : Word} {k : Kind} {h b : ℕ} → x ≡ word_of k h b → named_id x ≡ id_if k b
id_of_kind e = ap named_id e

pub id_in_word : {w : ℕ} {m : Lookup} {x : Word} {v : Value} (j : ℕ) → WordFor w m x v → named_id x ≡ Some j → (M : LineValue) × IdFor w m j M × (line_of_value w v ≡ Some M)
id_in_word j (IsNumber e) h = let a = id_of_kind e in cc
id_in_word j (IsEmpty e) h = let a = id_of_kind e in cc
id_in_word j (IsPacked z e) h = let a = id_of_kind e in cc
id_in_word {w} {m} j (IsStored {id = i'} {L = L} {p = p} z i e) h =
    let a = id_of_kind e in
    let c = node_id w i' p (id_fits i) in
    let same : i' ≡ j = cc in
    (L, subst (λ d. IdFor w m d L) same i, ap line_of_entry z)

pub id_in_entry : {w : ℕ} {m : Lookup} {x : Word} {v : Entry} (j : ℕ) → EntryFor w m x v → named_id x ≡ Some j → (M : LineValue) × IdFor w m j M × (line_of_entry v ≡ Some M)
id_in_entry j (ZeroEntry e) h = let a = id_of_kind e in cc
id_in_entry j (PackEntry e) h = let a = id_of_kind e in cc
id_in_entry {w} {m} j (NamedEntry {id = i'} {L = L} {p = p} i e) h =
    let a = id_of_kind e in
    let c = node_id w i' p (id_fits i) in
    let same : i' ≡ j = cc in
    (L, subst (λ d. IdFor w m d L) same i, refl)

pub names_child_values : {w : ℕ} {m : Lookup} {xs : List Word} {vs : List Value} (j : ℕ) → WordsFor w m xs vs → Names j xs → (M : LineValue) × IdFor w m j M × In M (found (map (line_of_value w) vs))
names_child_values j NoWord h = absurd h
names_child_values {w} j (AWord {v = v} {vs = vs} d ws) (inl e) = let (M, i, n) = id_in_word j d e in (M, i, found_here M (line_of_value w v) (map (line_of_value w) vs) n)
names_child_values {w} j (AWord {v = v} {vs = vs} d ws) (inr h) = let (M, i, n) = names_child_values j ws h in (M, i, found_later M (line_of_value w v) (map (line_of_value w) vs) n)

names_child_entries : {w : ℕ} {m : Lookup} {xs : List Word} {es : Entries} (j : ℕ) → EntriesFor w m xs es → Names j xs → (M : LineValue) × IdFor w m j M × In M (found (map line_of_entry (entries es)))
names_child_entries j NoEntries h = absurd h
names_child_entries j (AnEntry {e = e} {es = es} d ws) (inl n) = let (M, i, k) = id_in_entry j d n in (M, i, found_here M (line_of_entry e) (map line_of_entry (entries es)) k)
names_child_entries j (AnEntry {e = e} {es = es} d ws) (inr h) = let (M, i, k) = names_child_entries j ws h in (M, i, found_later M (line_of_entry e) (map line_of_entry (entries es)) k)

-- an id that a stored line names has a line value that the line's names
pub names_child : {w : ℕ} {m : Lookup} (id j : ℕ) (K : LineValue) (line : List Word) → IdFor w m id K → m id ≡ Some line → Names j line → (M : LineValue) × IdFor w m j M × In M (children w K)
names_child {w} {m} id j K line (LeafAt {line = x} b e ws) h n = names_child_values j ws (subst (λ z. Names j z) (same_line m id line x h e) n)
names_child {w} {m} id j K line (InnerAt {line = x} b e es) h n = names_child_entries j es (subst (λ z. Names j z) (same_line m id line x h e) n)
