use Rattle.walk.proofs.Putting.{put_of}
use Rattle.forms.specs.Conversions.{next_of, bytes_in, carries, carried_by}
use Rattle.forms.proofs.pieces.put_blocks.Goals as goal

pub returns : goal.returns
returns c =
    let its = c.args.c in
    let part = c.args.part.now in
    let next = next_of its.form its.ssrc c.args.block.now in
    let step = c.step in
    record {
      put = put_of (carries its part) (bytes_in its part next) c.args.out.now c.args.at c.requires.1 (carried_by its part next)
          (carries step.result.conversion step.new.part) step.result.answer step.new.out step.ensures;
      after = step.ensures.after;
    }
