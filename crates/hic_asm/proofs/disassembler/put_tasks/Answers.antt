use Rattle.std.specs.String.{string_bytes}
use Rattle.hic_asm.specs.ObjectText.{task_line}
use Rattle.hic_asm.proofs.Appending.{flat_map-place}
use Rattle.hic_asm.proofs.disassembler.put_tasks.Goals as goal

pub loop-task-preserved : goal.loop-task-preserved
loop-task-preserved c =
    flat_map-place task_line c.args.object.now.entries c.loop-task.task c.entry.result (string_bytes c.args.text.now) (string_bytes c.loop-task.text) (string_bytes c.put_task.new.text) c.entry.ensures.entry c.loop-task.invariant c.in_ok-put_task.ensures
