use mathlib.Core.Bool.{false≢true}
use native.Mathlib.Omega.{arith}
use Rattle.capi.proofs.table_walk.is_fine.Goals as goal

pub returns-then-ssrc-least : goal.returns-then-ssrc-least
returns-then-ssrc-least c = λ e. absurd (false≢true e)

pub returns-then-ssrc-ge-SSRCS : goal.returns-then-ssrc-ge-SSRCS
returns-then-ssrc-ge-SSRCS c = λ e. absurd (false≢true e)

pub returns-then-words-ge-REMEMBERED_WORDS : goal.returns-then-words-ge-REMEMBERED_WORDS
returns-then-words-ge-REMEMBERED_WORDS c = λ e. absurd (false≢true e)

pub returns-then-n-gt-MOST : goal.returns-then-n-gt-MOST
returns-then-n-gt-MOST c = λ e. absurd (false≢true e)

pub returns : goal.returns
returns c = λ e. record { above = omega arith; ssrc = omega arith; wire = omega arith; counts = c.has_counted.ensures e (omega arith) }
