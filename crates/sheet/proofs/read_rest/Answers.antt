-- `read_rest`: the length, the records' numbers, and their tests. Assumes nothing.
use Rattle.std.proofs.Common.{◌≡◌, OnOk, refl}
use Rattle.std.specs.declared.result.Result.{Result}
use Rattle.std.specs.declared.result.Result.TheVariants.{Ok, Err}
use Rattle.sheet_spec.specs.declared.refusals.Refusal.{Refusal}
use Rattle.sheet_spec.specs.Refusals.{refusal_of}
use Rattle.sheet_encoding.proofs.ReaderAnswer.{rest_read, rest_short}
use Rattle.sheet.proofs.read_rest.Goals as goal

ok : {A P : Type 0} (r : Result A Refusal) → (refusal_of r ≡ 0 → P) → OnOk r P
ok (Ok a) p = p refl
ok (Err e) p = tt

pub returns-then-f-file_length : goal.returns-then-f-file_length
returns-then-f-file_length c =
    let p = c.requires.v_value in
    (rest_short _ _ _ _ c.requires.f_value p.0 p.1.0 p.1.1 c.shape_with-shape.ensures.0 c.file_length.ensures c.if-f-file_length.true, tt)

pub returns : goal.returns
returns c =
    let p = c.requires.v_value in
    let read =
    rest_read _ _ _ _ c.requires.f_value p.0 p.1.0 p.1.1 c.shape_with-shape.ensures.0 c.file_length.ensures c.if-f-file_length.false c.read_records.ensures c.bad_file.ensures in
    (read.0, ok _ read.1)
