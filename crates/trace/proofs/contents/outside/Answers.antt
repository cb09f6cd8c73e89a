use Rattle.std.proofs.Common.{sym, arith}
use Rattle.trace.proofs.Labels.{byte_line, byte_text, byte_low, byte_high}
use Rattle.trace.proofs.contents.outside.Goals as goal

pub returns-in-10 : goal.returns-in-10
returns-in-10 c = sym (byte_line _ c.in-10.is)

pub returns-in-32-to-126 : goal.returns-in-32-to-126
returns-in-32-to-126 c = sym (byte_text _ c.in-32-to-126.if-c-lt32-own.false (omega arith))

pub returns-in_default : goal.returns-in_default
returns-in_default c = sym (byte_low _ c.in_default.in_default-own.rest.1 c.in_default.if-c-lt32-own.true)

pub returns-in_default-2 : goal.returns-in_default-2
returns-in_default-2 c = sym (byte_high _ c.in_default.in_default-own.rest.1 c.in_default.if-c-lt127-own.false)
