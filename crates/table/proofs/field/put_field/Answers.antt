use borrow.Author.Rules.{rules}
use mathlib.Core.Path.{sym, ap, ◌∙◌}
use mathlib.Core.List.{List}
use Prim.Native.Nat.{ℕ}
use lib.Seq.{sets}
use Rattle.table.proofs.Texts.{same_bare, other_quoted}
use Rattle.table.proofs.field.put_field.Goals as goal

pub returns-then-long-s : goal.returns-then-long-s
returns-then-long-s c =
    let a = c.args in
    let bare = same_bare a.s.now (sym c.requires.0 ∙ c.if-long-s.true) in
    c.put_bytes.ensures ∙ ap (λ (t : List ℕ). sets a.out.now 0 t) (sym bare)

pub put_quoted-requires : goal.put_quoted-requires
put_quoted-requires c =
    (other_quoted c.args.s.now (λ e. c.if-long-s.false (c.requires.0 ∙ e)), search rules)
