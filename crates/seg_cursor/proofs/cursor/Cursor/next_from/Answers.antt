use Rattle.std.proofs.Common.{subst, sym}
use Rattle.hic_word.specs.Memory.{line_at}
use Rattle.seg_cursor.specs.Trails.{CursorFor, KeptFor}
use Rattle.seg_cursor.proofs.Walking.{cursor_kept, kept_cursor}
use Rattle.seg_cursor.proofs.cursor.Cursor.next_from.Goals as goal

pub returns-clause-value : goal.returns-clause-value
returns-clause-value g c = λ A f.
    let seen = subst (λ v. CursorFor (g.M.HoldCounts.memory c.args.mem.now) v A) (sym c.self.view_is) f in
    c.go_to_next-found.ensures.next A seen.root_for (cursor_kept c.self.inside.lines c.self.inside.last seen)

pub returns-clause-cursor : goal.returns-clause-cursor
returns-clause-cursor g c = λ A f.
    let seen = subst (λ v. CursorFor (g.M.HoldCounts.memory c.args.mem.now) v A) (sym c.self.view_is) f in
    let m = g.M.HoldCounts.memory c.args.mem.now in
    let kept = c.go_to_next-found.ensures.kept A seen.root_for (cursor_kept c.self.inside.lines c.self.inside.last seen) in
    let last = sym c.offset_in-self-inside.ensures in
    kept_cursor {m = m} c.go_to_next-found.new.lines c.offset_in-self-inside.result seen.root_for (subst (KeptFor (line_at m) c.self.inside.root A c.go_to_next-found.new.lines 0) last kept)
