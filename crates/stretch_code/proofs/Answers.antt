-- The contract of each step leaves one result.
use Rattle.std.proofs.Common.{arith, ◌≡◌, refl, sym, ap, ◌∙◌, ℕ, ◌≤◌, Option, Some, None}
use Rattle.std.proofs.Props.{props}
use mathlib.Core.HLevel.{is_prop→PathP}
use Rattle.days.specs.Range.{last_day}
use Rattle.rest.specs.Wings.{table_of}
use Rattle.stretch.specs.Answers.{stretch_answer}
use Rattle.stretch.specs.declared.StretchAnswer.{StretchAnswer}
use Rattle.stretch_code.specs.Found.{told, found_answer}
use Rattle.stretch_code.specs.declared.found.NextStretch.{NextStretch}

at_most : (a b : ℕ) → IsProp (a ≤ b)
at_most a b = Prim.hlevel props

same : (r s : NextStretch) → told r ≡ told s → r ≡ s
same r s e =
    let f = ap (λ (t : StretchAnswer). t.first) e in
    let l = ap (λ (t : StretchAnswer). t.length) e in
    let d = ap (λ (t : StretchAnswer). t.days_left) e in
    λ i. record {
      first = f i;
      length = l i;
      days_left = d i;
      begins = is_prop→PathP (λ j. f j ≤ last_day) (λ j. at_most (f j) last_day) r.begins s.begins i;
      short = is_prop→PathP (λ j. l j ≤ 3) (λ j. at_most (l j) 3) r.short s.short i;
    }

one_found : (r s : Option NextStretch) → found_answer r ≡ found_answer s → r ≡ s
one_found (Some r) (Some s) e = ap Some (same r s e)
one_found (Some r) None e = let n = ap (λ (t : StretchAnswer). t.refusal) e in absurd (omega (arith, n))
one_found None (Some s) e = let n = ap (λ (t : StretchAnswer). t.refusal) e in absurd (omega (arith, n))
one_found None None e = refl

-- Of `stretch_in`, and of `stretch_from`.
pub stretch_in_one :
    (wing j : ℕ) (r s : Option NextStretch) → found_answer r ≡ stretch_answer (table_of wing) j → found_answer s ≡ stretch_answer (table_of wing) j → r ≡ s
stretch_in_one wing j r s e f = one_found r s (e ∙ sym f)
