use Rattle.std.proofs.Common.{refl, [], ◌∷◌, ◌++◌, sym, ◌∙◌, ap, subst}
use Rattle.std.proofs.lemmas.Result.{MatchResult-from_err}
use Rattle.hic_word.specs.Width.{four_wide}
use Rattle.hic_word.specs.declared.Word.{Word}
use Rattle.hic_word.specs.Canon.{IsMade, enc}
use Rattle.hic_word.specs.Holds.{Holds}
use Rattle.hic_word.specs.Memory.{line_at}
use Rattle.hic_word.specs.Names.{names_in}
use Rattle.hic_word.specs.Stands.{EntryFor, ZeroEntry}
use Rattle.hic_word.proofs.callers.Holds.{interned_there}
use Rattle.line_mem.specs.Sound.{IsFull}
use Rattle.line_room.proofs.MemoryRoom.{whole_memory_lacks_room}
use Rattle.seg_write.proofs.Storing.{entry_of_id, gains_named, held_alike, one_gained}
use Rattle.seg_write.proofs.store.store.Goals as goal

pub returns-in-Zero-clause-held : goal.returns-in-Zero-clause-held
returns-in-Zero-clause-held g c = λ held h.
    let m = g.M.HoldCounts.memory c.args.mem.now in
    held_alike m c.args.pieces.now (c.num.result ∷ []) held (c.in-Zero.ensures.names ∙ sym (ap (λ (x : Word). names_in (x ∷ [])) c.num.ensures.value)) h

pub returns-in-Zero-clause-stands : goal.returns-in-Zero-clause-stands
returns-in-Zero-clause-stands g c = λ A part pieces.
    let m = line_at (g.M.HoldCounts.memory c.args.mem.now) in
    subst (EntryFor 4 m c.num.result) (sym (c.in-Zero.ensures.form m A part pieces)) (ZeroEntry c.num.ensures.value)

pub returns-in_ok-id-in-NeedLine-clause-held : goal.returns-in_ok-id-in-NeedLine-clause-held
returns-in_ok-id-in-NeedLine-clause-held g c = λ held h.
    let old = g.M.HoldCounts.memory c.args.mem.now in
    let new = g.M.HoldCounts.memory c.keep_line.new.mem in
    subst (λ x. Holds 4 new (x ∷ held)) (entry_of_id c.node.result c.get.result c.in_ok-id-in-NeedLine.id c.node.ensures c.get.ensures.value) (c.in_ok-id-in-NeedLine.ensures.reshapes.holds held (subst (λ xs. Holds 4 old (xs ++ held)) (sym c.in-NeedLine.ensures.names) h))

pub returns-in_ok-id-in-NeedLine-clause-gains : goal.returns-in_ok-id-in-NeedLine-clause-gains
returns-in_ok-id-in-NeedLine-clause-gains g c = λ A R part pieces named.
    let old = g.M.HoldCounts.memory c.args.mem.now in
    let new = g.M.HoldCounts.memory c.keep_line.new.mem in
    let (held, h) = c.requires.held in
    let (value, is, d) = c.in-NeedLine.ensures.form (line_at old) A part pieces in
    let made : IsMade 4 value = record { height = c.args.height; array = A; path = []; is_part = part; made = is } in
    let low = (g.met.M.LineMem.sound c.keep_line.new.mem).small c.in_ok-id-in-NeedLine.id c.in-NeedLine.line.w (interned_there old new c.in-NeedLine.line.w c.in_ok-id-in-NeedLine.id c.in_ok-id-in-NeedLine.ensures.interned) in
    gains_named old new (enc 4 c.args.height A) value R is named (λ L s.
    one_gained old new c.in-NeedLine.line.w (c.args.pieces.now ++ held) c.in_ok-id-in-NeedLine.id value L h d made c.in_ok-id-in-NeedLine.ensures.interned low s)

pub returns-in_err-id-in-NeedLine-clause-full : goal.returns-in_err-id-in-NeedLine-clause-full
returns-in_err-id-in-NeedLine-clause-full g c = MatchResult-from_err c.from_residual.result _ _ c.from_residual.ensures.0 (λ _ A R part pieces named.
    let old = g.M.HoldCounts.memory c.args.mem.now in
    let (held, h) = c.requires.held in
    let (value, is, d) = c.in-NeedLine.ensures.form (line_at old) A part pieces in
    let full : IsFull old c.in-NeedLine.line.w = c.in_err-id-in-NeedLine.ensures.full.0 refl in
    whole_memory_lacks_room 4 old (c.args.pieces.now ++ held) c.in-NeedLine.line.w value R four_wide h.balanced full.whole full.new d (named value [] is))

pub returns-in-Pack-clause-held : goal.returns-in-Pack-clause-held
returns-in-Pack-clause-held g c = λ held h. held_alike (g.M.HoldCounts.memory c.args.mem.now) c.args.pieces.now (c.in-Pack.entry ∷ []) held c.in-Pack.ensures.names h

pub returns-in-Pack-2-clause-held : goal.returns-in-Pack-2-clause-held
returns-in-Pack-2-clause-held g c = λ held h. held_alike (g.M.HoldCounts.memory c.args.mem.now) c.args.pieces.now (c.in-Pack.entry ∷ []) held c.in-Pack.ensures.names h
