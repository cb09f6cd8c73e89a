use Rattle.sources.proofs.finding.with_held.Goals as goal

pub returns : goal.returns
returns c = rw (c.with_ssrc-next.ensures, c.both.ensures, c.both-2.ensures, c.is_sound.ensures)
