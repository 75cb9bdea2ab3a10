-- `bad_values`: the tests of every record. Assumes nothing.
use Rattle.std.proofs.Common.{◌≡◌, ◌+◌, ◌<◌, ℕ, ℤ, List, true, refl, sym, arith, rules}
use Rattle.sheet_encoding.proofs.RecordTurn.{bad_is, bad_none, bad_next, bad_stop, has_room}
use Rattle.sheet_spec.proofs.Laws.{goes_on}
use Rattle.sheet_spec.specs.File.{records, record_at, bad_numbers, bad_record}
use Rattle.sheet_spec.specs.declared.Record.{Record}
use Rattle.sheet_spec.specs.declared.Shape.{Shape}
use Rattle.sheet_validation.proofs.bad_values.Goals as goal

-- the marks are not in question
unmarked : (v : List ℤ) (s : Shape) (r : ℕ) {x : Record} → x ≡ record_at s r → {y : ℕ} → y ≡ bad_numbers v s x → y ≡ bad_record (λ r. true) s v r
unmarked v s r is e = bad_is s r is (λ r. true) v refl e (sym (goes_on (λ c. c) _ refl))

pub loop-r-init : goal.loop-r-init
loop-r-init c = search (rules, bad_none)

pub bad_record-requires : goal.bad_record-requires
bad_record-requires c =
    let l : c.loop-r.r < records c.args.shape = omega (arith, c.record_count-r-end.ensures) in
    (c.requires, has_room _ _ c.record_at.ensures c.requires l)

pub returns-in_err-bad_record : goal.returns-in_err-bad_record
returns-in_err-bad_record c = search (rules, bad_stop c.args.shape (λ r. true) c.args.v.now (c.loop-r.r + 1), bad_next, unmarked)

pub loop-r-preserved : goal.loop-r-preserved
loop-r-preserved c = search (rules, bad_next, unmarked)
