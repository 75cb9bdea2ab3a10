-- `read_values`: the file's beginning, the head's numbers, and the rest. Assumes nothing.
use Rattle.std.proofs.Common.{◌∙◌, ◌≡◌, List, ℕ, ℤ, ap}
use Rattle.std.proofs.lemmas.Result.{err_from_is_err_and}
use Rattle.sheet_spec.proofs.Laws.{refused}
use Rattle.sheet_spec.specs.Slots.{head_size}
use Rattle.sheet_spec.specs.Fields.{bad, filled}
use Rattle.sheet_spec.specs.Sizes.{letters}
use Rattle.sheet_spec.specs.Layout.{head_fields}
use Rattle.sheet_spec.specs.Sheet.{head_of, zeros}
use Rattle.sheet_spec.proofs.Answers.{refused_head}
use Rattle.sheet_encoding.proofs.ReaderAnswer.{begins, begins_short, begins_wrong}
use Rattle.sheet.proofs.read_values.Goals as goal
use Rattle.sheet.proofs.read_values.Goals.{then-f-lt-CAPS_AT-via-then-f-lt-CAPS_AT, then-f-lt-CAPS_AT-via-else-f-lt-CAPS_AT+then-not-marked}

-- the head's numbers, read into zeros
head_read : (f : List ℕ) {v w : List ℤ} → v ≡ zeros → w ≡ filled head_fields f letters head_size v → w ≡ head_of f
unfolding head_of
head_read f h e = e ∙ ap (filled head_fields f letters head_size) h

pub returns-then-f-lt-CAPS_AT : goal.returns-then-f-lt-CAPS_AT
returns-then-f-lt-CAPS_AT c = (
  elim c.then-f-lt-CAPS_AT.branch [
    | then-f-lt-CAPS_AT-via-then-f-lt-CAPS_AT w ↦ begins_short _ w.if-f-lt-CAPS_AT.true
    | then-f-lt-CAPS_AT-via-else-f-lt-CAPS_AT+then-not-marked w ↦ begins_wrong _ w.if-f-lt-CAPS_AT.false w.marked.ensures w.if-not-marked.true
  ],
  tt,
)

pub returns-in_err-bad_head : goal.returns-in_err-bad_head
returns-in_err-bad_head c =
    let h = head_read _ c.requires c.read_head.ensures in
    let begun = begins _ c.if-f-lt-CAPS_AT.false c.marked.ensures c.if-not-marked.false in
    let p = err_from_is_err_and c.from_residual.result c.from_residual.ensures.1 in
    rw (p.1, p.2) (refused_head _ begun _ (c.in_err-bad_head.ensures ∙ ap (λ (v : List ℤ). bad head_fields v head_size) h) (refused _), tt)

pub read_rest-requires-clause-v_value : goal.read_rest-requires-clause-v_value
read_rest-requires-clause-v_value c =
    let h = head_read _ c.requires c.read_head.ensures in
    (h, (c.in_ok-bad_head.ensures, c.kind_of-kind.ensures))
