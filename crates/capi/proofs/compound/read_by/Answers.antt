use mathlib.Core.Path.{ap, ◌∙◌}
use borrow.Author.Tests.{le-leb, lt-leb}
use Rattle.rtcp.specs.Compound.{reading}
use Rattle.capi.specs.CompoundCalls.{reading_by}
use Rattle.capi.proofs.compound.read_by.Goals as goal

pub returns-then-profile-gt1 : goal.returns-then-profile-gt1
unfolding reading_by
returns-then-profile-gt1 c = rw (lt-leb _ _ c.if-profile-gt1.true)

pub returns : goal.returns
unfolding reading_by
returns c =
    let a = c.args in
    rw (le-leb _ _ c.if-profile-gt1.false) (c.read_compound.ensures.value ∙ ap (reading a.bytes.now a.media) c.profile_of.ensures)
