use Rattle.std.proofs.Common.{[], ◌∷◌, arith}
use Rattle.ref_counts.proofs.Linked.{held_live, held_room}
use Rattle.reg_file.proofs.Registers.{none_more, one_less, one_more}
use Rattle.line_rows.proofs.file.registers.Goals as goal

pub set-requires-clause-held : goal.set-requires-clause-held
set-requires-clause-held g c =
    let x = c.in_ok-word.word in
    (x ∷ [], none_more (g.M.HoldCounts.memory c.array.new.mem) (x ∷ []) c.zero-file.result c.zero-file.ensures c.in_ok-word.ensures)

pub set-requires-clause-live : goal.set-requires-clause-live
set-requires-clause-live g c =
    let x = c.in_ok-word.word in
    held_live (g.M.HoldCounts.memory c.array.new.mem) [] x c.in_ok-word.ensures

pub set-requires-clause-room : goal.set-requires-clause-room
set-requires-clause-room g c =
    let x = c.in_ok-word.word in
    held_room (g.M.HoldCounts.memory c.array.new.mem) [] x (g.met.M.LineMem.sound c.array.new.mem) c.in_ok-word.ensures (omega arith)

pub release-requires : goal.release-requires
release-requires g c =
    let x = c.in_ok-word.word in
    (x ∷ [], one_less (g.M.HoldCounts.memory c.set.new.mem) (x ∷ []) c.set.new.self c.zero-file.result x c.set.ensures.words c.zero-file.ensures (c.set.ensures.exchanges.holds (x ∷ []) (none_more (g.M.HoldCounts.memory c.array.new.mem) (x ∷ []) c.zero-file.result c.zero-file.ensures c.in_ok-word.ensures)))

pub set-requires-2-clause-held : goal.set-requires-2-clause-held
set-requires-2-clause-held g c =
    let x = c.in_ok-word.word in
    ([], one_more (g.M.HoldCounts.memory c.release.new.mem) [] c.set.new.self c.zero-file.result x c.set.ensures.words c.zero-file.ensures (c.release.ensures.exchanges.holds (x ∷ []) (one_less (g.M.HoldCounts.memory c.set.new.mem) (x ∷ []) c.set.new.self c.zero-file.result x c.set.ensures.words c.zero-file.ensures (c.set.ensures.exchanges.holds (x ∷ []) (none_more (g.M.HoldCounts.memory c.array.new.mem) (x ∷ []) c.zero-file.result c.zero-file.ensures c.in_ok-word.ensures)))))

pub set-requires-2-clause-live : goal.set-requires-2-clause-live
set-requires-2-clause-live g c =
    let x = c.in_ok-word.word in
    held_live (g.M.HoldCounts.memory c.release.new.mem) [] x (c.release.ensures.exchanges.holds (x ∷ []) (one_less (g.M.HoldCounts.memory c.set.new.mem) (x ∷ []) c.set.new.self c.zero-file.result x c.set.ensures.words c.zero-file.ensures (c.set.ensures.exchanges.holds (x ∷ []) (none_more (g.M.HoldCounts.memory c.array.new.mem) (x ∷ []) c.zero-file.result c.zero-file.ensures c.in_ok-word.ensures))))

pub set-requires-2-clause-room : goal.set-requires-2-clause-room
set-requires-2-clause-room g c =
    let x = c.in_ok-word.word in
    held_room (g.M.HoldCounts.memory c.release.new.mem) [] x (g.met.M.LineMem.sound c.release.new.mem) (c.release.ensures.exchanges.holds (x ∷ []) (one_less (g.M.HoldCounts.memory c.set.new.mem) (x ∷ []) c.set.new.self c.zero-file.result x c.set.ensures.words c.zero-file.ensures (c.set.ensures.exchanges.holds (x ∷ []) (none_more (g.M.HoldCounts.memory c.array.new.mem) (x ∷ []) c.zero-file.result c.zero-file.ensures c.in_ok-word.ensures)))) (omega arith)

pub clear-requires : goal.clear-requires
clear-requires g c =
    let x = c.in_ok-word.word in
    ([], c.set-2.ensures.exchanges.holds [] (one_more (g.M.HoldCounts.memory c.release.new.mem) [] c.set.new.self c.zero-file.result x c.set.ensures.words c.zero-file.ensures (c.release.ensures.exchanges.holds (x ∷ []) (one_less (g.M.HoldCounts.memory c.set.new.mem) (x ∷ []) c.set.new.self c.zero-file.result x c.set.ensures.words c.zero-file.ensures (c.set.ensures.exchanges.holds (x ∷ []) (none_more (g.M.HoldCounts.memory c.array.new.mem) (x ∷ []) c.zero-file.result c.zero-file.ensures c.in_ok-word.ensures))))))
