use borrow.Author.Rules.{rules}
use mathlib.Core.Path.{◌≡◌, refl, sym, ap, ◌∙◌}
use mathlib.Core.List.{List}
use Prim.Native.Nat.{ℕ, ◌+◌, ◌*◌}
use native.Mathlib.Omega.{arith}
use mir.Syntax.{w64}
use mir.ValLaws.{to_z_pos}
use lib.ListN.{take, drop}
use Rattle.numbers.proofs.Signed.{seen_is}
use Rattle.source.specs.declared.Source.{Source}
use Rattle.source.specs.declared.BlockCount.{BlockCount}
use Rattle.source.specs.Blocks.{block_count}
use Rattle.source.proofs.Totalled.{few_jumps, few_restarts}
use Rattle.sources.specs.Stands.{record_of}
use Rattle.lent.specs.SourceWords.{source_near}
use Rattle.lent.specs.TableWords.{places_in}
use Rattle.capi.specs.TableWalks.{Told}
use Rattle.capi.proofs.Placed.{told_low, told_long, told_source, counts_told}
use Rattle.capi.proofs.place_calls.count_at.Goals as goal

-- the answer of the record in the table
answered : (words : List ℕ) (ssrc at width : ℕ) (records : List ℕ) → Told words ssrc at → {s : Source} {a : BlockCount}
    → s ≡ source_near (take 10 (drop (11 * at + 1) words))
    → block_count s width records ≡ a → block_count (record_of ssrc (places_in words)) width records ≡ a
answered words ssrc at width records t read is = ap (λ (x : Source). block_count x width records) (sym (told_source words ssrc at t read)) ∙ is

pub source_at-s-requires : goal.source_at-s-requires
source_at-s-requires c = let t = c.requires in (told_low _ _ _ t, told_long _ _ _ t)

pub put_at-requires : goal.put_at-requires
put_at-requires c = let t = c.requires in (told_low _ _ _ t, told_long _ _ _ t)

pub overflow_mul-result : goal.overflow_mul-result
overflow_mul-result c =
    let a = c.args in
    let f = sym c.count_block.ensures.value ∙ c.in-Counted.is in
    record { fits = omega (arith, few_restarts _ a.width a.records.now f) }

pub overflow_add-result : goal.overflow_add-result
overflow_add-result c =
    let a = c.args in
    let f = sym c.count_block.ensures.value ∙ c.in-Counted.is in
    record { fits = omega (arith, few_restarts _ a.width a.records.now f, few_jumps _ a.width a.records.now f) }

pub overflow_cast-result : goal.overflow_cast-result
overflow_cast-result c =
    let a = c.args in
    let f = sym c.count_block.ensures.value ∙ c.in-Counted.is in
    record { sfits = omega (arith, few_restarts _ a.width a.records.now f, few_jumps _ a.width a.records.now f) }

pub returns-in-Counted : goal.returns-in-Counted
returns-in-Counted c =
    let a = c.args in
    let f = sym c.count_block.ensures.value ∙ c.in-Counted.is in
    let t = c.requires in
    let e = answered a.words.now a.ssrc a.at a.width a.records.now t c.source_at-s.ensures f in
    counts_told a.words.now a.ssrc a.at t a.width a.records.now e
    (record {
      answers = to_z_pos w64 (256 * c.in-Counted.restarts + c.in-Counted.jumps)
          (omega (arith, few_restarts _ a.width a.records.now f, few_jumps _ a.width a.records.now f));
      stores = c.put_at.ensures;
    })

pub returns-in-Refused : goal.returns-in-Refused
returns-in-Refused c =
    let a = c.args in
    let t = c.requires in
    let f = sym c.count_block.ensures.value ∙ c.in-Refused.is in
    let e = answered a.words.now a.ssrc a.at a.width a.records.now t c.source_at-s.ensures f in
    counts_told a.words.now a.ssrc a.at t a.width a.records.now e (record { answers = seen_is c.minus.result (search rules) ∙ c.minus.ensures; stores = refl })
