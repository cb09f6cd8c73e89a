-- The library's version, and the text of a refusal.
use Rattle.std.specs.Prelude.{ℕ, ◌+◌, ◌*◌, List, ℤ}
use Rattle.answers.specs.Meanings.{meaning_fault, meaning_of}
use Rattle.capi.specs.Codes.{length_code, Gives}

-- version 0.2.0
abbrev pub version_code : ℕ
version_code = 65536 * 0 + 256 * 2 + 0

-- 10 for a number that is no refusal's, 12; or the text of a refusal's number
abbrev pub WritesMeaning : ℕ → List ℕ → ℤ → List ℕ → Type 0
WritesMeaning number old r out = Gives length_code (meaning_fault number) (meaning_of number) old r out
