use Rattle.std.proofs.Common.{sym}
use Rattle.trace.proofs.Spacing.{retired_line, retired_other, space_for, byte_kept}
use Rattle.trace.proofs.parts.spaced_byte.Goals as goal

pub returns-in-10 : goal.returns-in-10
returns-in-10 c = sym (space_for _ (retired_line _ c.in-10.is))

pub returns-in_default : goal.returns-in_default
returns-in_default c = sym (byte_kept _ (retired_other _ c.in_default.in_default-own.rest.1))
