use Rattle.std.proofs.Common.{length, ◌≡◌, ◌≢◌, ◌+◌, ◌*◌, ◌/◌, ◌^◌, ◌≤◌}
use Rattle.hic_word.specs.declared.Word.{Word}
use Rattle.hic_word.specs.Values.{Array}
use Rattle.hic_word.specs.Memory.{line_at}
use Rattle.seg_cursor.specs.Pieces.{IsBlank}
use Rattle.seg_cursor.specs.Trails.{OnWay}
use Rattle.seg_cursor.proofs.Cutting.{no_word}
use Rattle.seg_cursor.proofs.way.go_to_first.Given as goal

abbrev pub invariant-loop-height : goal.invariant-loop-height
invariant-loop-height g l = record {
  low : l.height ≤ l.fn.height;
  fits : l.number * 4 ^ l.height + 4 ^ l.height ≤ 2 ^ 32;
  some : l.entry ≢ no_word;
  long : length l.lines ≡ 16;
  more : l.fn.steps ≤ l.steps;
  looks : l.steps + l.height ≤ l.fn.steps + l.fn.height;
  within : l.number * 4 ^ l.height / 4 ^ l.fn.height ≡ l.fn.number;
  way : (root : Word) (A : Array) → OnWay (line_at (g.M.HoldCounts.memory l.mem)) root A l.fn.lines (l.fn.number * 4 ^ l.fn.height) l.fn.height l.fn.entry
      → OnWay (line_at (g.M.HoldCounts.memory l.mem)) root A l.lines (l.number * 4 ^ l.height) l.height l.entry
      × IsBlank A (l.fn.number * 4 ^ l.fn.height) (l.number * 4 ^ l.height);
}

abbrev pub decreases-loop-height : goal.decreases-loop-height
decreases-loop-height g l = l.height
