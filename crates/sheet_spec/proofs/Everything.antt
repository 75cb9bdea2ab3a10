-- To compute with a sheet's definitions: `unfolding everything` opens them all. Assumes nothing.
use Prim.Native.Nat.{ℕ}
use Rattle.integers.specs.Bytes.{be, be_bytes, decode}
use Rattle.sheet_spec.specs.Refusals.{unless_refused, first_of, first_refusal}
use Rattle.sheet_spec.specs.Fields.{decoded, encoded, test, offset, filled, coded, bad}
use Rattle.sheet_spec.specs.Layout.{◌▸◌, first, groups, head_fields, edge_field, law_rest, law_fields, row_rest, row_fields, band_fields, side_fields, box_fields, fields}
use Rattle.sheet_spec.specs.Box.{all, any, meets, clear}
use Rattle.sheet_spec.specs.Order.{compare, compare_boxes, precedes, ascends_at}
use Rattle.sheet_spec.specs.File.{record_at, record_start, filled_all, coded_all, marked, order_test, overlap_test, closing, bad_all}
use Rattle.sheet_spec.specs.Sheet.{zeros, head_of, kind_of, shape_of, contents, stage, refusal, values, value_refusal, length_of, bytes_of, write_refusal, written}
use Rattle.sheet_spec.specs.SheetA.{file_a}

unfoldable pub everything : ℕ
unfolding be be_bytes decode unless_refused first_of first_refusal decoded encoded test offset filled coded bad ◌▸◌ first groups head_fields edge_field law_rest law_fields row_rest row_fields band_fields side_fields box_fields fields record_at record_start filled_all coded_all marked compare compare_boxes precedes ascends_at all any meets clear order_test overlap_test closing bad_all zeros head_of kind_of shape_of contents stage refusal values value_refusal length_of bytes_of write_refusal written file_a
everything = 0
