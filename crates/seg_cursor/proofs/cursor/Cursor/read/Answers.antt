use Rattle.std.proofs.Common.{Some, ap, subst, sym, ◌∙◌}
use Rattle.line_mem.specs.Looks.{LooksUpTo}
use Rattle.seg_cursor.specs.Trails.{CursorFor}
use Rattle.seg_cursor.proofs.Nexts.{walks_looks, walks_near}
use Rattle.seg_cursor.proofs.Walking.{cursor_kept, kept_cursor}
use Rattle.seg_cursor.proofs.cursor.Cursor.read.Goals as goal

pub returns-clause-cursor : goal.returns-clause-cursor
returns-clause-cursor g c = λ A f.
    let seen = subst (λ v. CursorFor (g.M.HoldCounts.memory c.args.mem.now) v A) (sym c.self.view_is) f in
    kept_cursor c.go_to-end.new.lines (Some c.args.offset) seen.root_for (c.go_to-end.ensures.kept A seen.root_for (cursor_kept c.self.inside.lines c.self.inside.last seen))

pub returns-clause-looks : goal.returns-clause-looks
returns-clause-looks g c =
    let (A, f) = c.requires in
    let seen = subst (λ v. CursorFor (g.M.HoldCounts.memory c.args.mem.now) v A) (sym c.self.view_is) f in
    subst (λ v. LooksUpTo v.root.height c.args.steps.now c.go_to-end.new.steps) c.self.view_is (walks_looks A c.self.inside.root.height c.self.inside.last c.args.offset c.go_to-end.result.1 c.args.steps.now c.go_to-end.new.steps (c.go_to-end.ensures.walk A seen.root_for (cursor_kept c.self.inside.lines c.self.inside.last seen)))

pub returns-clause-near : goal.returns-clause-near
returns-clause-near g c = λ p last.
    let (A, f) = c.requires in
    let seen = subst (λ v. CursorFor (g.M.HoldCounts.memory c.args.mem.now) v A) (sym c.self.view_is) f in
    walks_near A c.self.inside.root.height c.self.inside.last c.args.offset c.go_to-end.result.1 c.args.steps.now c.go_to-end.new.steps p (c.go_to-end.ensures.walk A seen.root_for (cursor_kept c.self.inside.lines c.self.inside.last seen)) (ap (λ v. v.last) c.self.view_is ∙ last)

pub returns-clause-way : goal.returns-clause-way
returns-clause-way g c = λ A f.
    let seen = subst (λ v. CursorFor (g.M.HoldCounts.memory c.args.mem.now) v A) (sym c.self.view_is) f in
    c.go_to-end.ensures.way A seen.root_for (cursor_kept c.self.inside.lines c.self.inside.last seen)
