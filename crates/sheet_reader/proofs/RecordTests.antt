-- The tests of a file's records, one record at each turn: x is the r-th, it starts at `at`, and those before it passed. Assumes nothing.
use Rattle.std.proofs.Common.{◌≡◌, ℕ, ◌+◌, ◌<◌, Bool, true, false, List, ℤ, refl, sym, ap, ap₂, ◌∙◌, arith}
use Rattle.sheet_spec.specs.Refusals.{Cause, number, refuse_unless, unless_refused}
use Rattle.sheet_spec.specs.declared.Shape.{Shape}
use Rattle.sheet_spec.specs.declared.Record.{Record}
use Rattle.sheet_spec.specs.File.{records, record_at, record_start, marked, marked_at, bad_numbers, bad_record, bad_all}
use Rattle.sheet_spec.proofs.Laws.{first_keep, first_next, number_is}

module _ (s : Shape) (f : List ℕ) (v : List ℤ) (r : ℕ) {x : Record} {at : ℕ} (is : x ≡ record_at s r) (start : at ≡ record_start s r) (none : bad_all (marked_at s f) s v r ≡ 0) where
  turn : {t : Bool} {c : ℕ} → marked f at x ≡ t → c ≡ bad_numbers v s x → unless_refused (refuse_unless t Cause.mark) (λ c. c) c ≡ bad_record (marked_at s f) s v r
  turn e i = ap₂ (λ (t : Bool) (c : ℕ). unless_refused (refuse_unless t Cause.mark) (λ c. c) c) (sym e ∙ ap₂ (marked f) start is) (i ∙ ap (bad_numbers v s) is)

  refuses : {c : ℕ} → r < records s → c ≡ bad_record (marked_at s f) s v r → (c ≡ 0 → ⊥) → c ≡ bad_all (marked_at s f) s v (records s)
  unfolding bad_all
  refuses {c} below e some = let h = bad_record (marked_at s f) s v in first_keep h (r + 1) (records s) c (omega arith) some (first_next h r c none e)

  pub wrong_mark : r < records s → marked f at x ≡ false → number Cause.mark ≡ bad_all (marked_at s f) s v (records s)
  unfolding unless_refused
  wrong_mark below wrong = refuses below (turn wrong refl) (number_is Cause.mark)

  pub wrong_numbers : {c : ℕ} → r < records s → marked f at x ≡ true → c ≡ bad_numbers v s x → (c ≡ 0 → ⊥) → c ≡ bad_all (marked_at s f) s v (records s)
  unfolding unless_refused
  wrong_numbers below right e some = refuses below (turn right e) some

  pub passed : marked f at x ≡ true → 0 ≡ bad_numbers v s x → bad_all (marked_at s f) s v (r + 1) ≡ 0
  unfolding unless_refused bad_all
  passed right e = first_next (bad_record (marked_at s f) s v) r 0 none (turn right e)
