-- The line while the writer makes it. Its own calls promise these; no public statement rests on them.
use Rattle.std.specs.Prelude.{◌≡◌, List, ◌++◌, ℕ, ◌+◌, ◌≤◌, length, take}
use Rattle.sdp.specs.declared.writer.Text.{Text}

abbrev pub text_in : Text → List ℕ
text_in t = take t.long t.bytes

-- room for n bytes more
abbrev pub Room : Text → ℕ → Type 0
Room t n = t.long + n ≤ 96

-- r is t with the bytes s behind it
pub record Grown (t r : Text) (s : List ℕ) : Type 0 where
  pub text : text_in r ≡ text_in t ++ s
  pub long : r.long ≡ t.long + length s
