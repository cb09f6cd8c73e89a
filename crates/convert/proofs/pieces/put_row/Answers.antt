use Rattle.walk.proofs.Putting.{put_of}
use Rattle.convert.specs.Runs.{row_in, next_of}
use Rattle.convert.proofs.pieces.put_row.Goals as goal

pub returns : goal.returns
returns c =
    let next = next_of c.args.run c.args.block.now in
    let step = c.step in
    put_of c.args.run (row_in c.args.zeroth.now next) c.args.out.now c.args.at c.requires.1 next step.result.run step.result.answer step.new.out step.ensures
