use Rattle.std.proofs.Common.{map, take}
use Rattle.httparse.specs.Spans.{header_bytes}
use Rattle.reg_http_head.specs.Head.{values_of, HasFieldValues}
use Rattle.reg_http_head.proofs.fields.values_of.Given as goal

abbrev pub invariant-loop-field : goal.invariant-loop-field
invariant-loop-field l = HasFieldValues l.head (values_of l.name (map (header_bytes l.head) (take l.field-index l.fields))) l.values
