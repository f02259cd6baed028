use Rattle.std.proofs.Common.{ap, sym, ◌∙◌, take, arith}
use Rattle.std.proofs.lemmas.Simd.{length-chunk, leading_from_mask_l, trailing_mask_l}
use lib.Count.{count_trailing_zeros}
use Rattle.gz_io.specs.Finding.{is_stop}
use Rattle.gz_io.proofs.find.plain_of_16.Goals as goal

pub returns-then-stops-eq0 : goal.returns-then-stops-eq0
returns-then-stops-eq0 c =
    let v = take 16 c.args.bytes.now in
    sym (leading_from_mask_l is_stop v (sym c.marks-stops.ensures ∙ c.if-stops-eq0.true)
    ∙ length-chunk 0 16 c.args.bytes.now c.requires)

pub returns-else-stops-eq0 : goal.returns-else-stops-eq0
returns-else-stops-eq0 c =
    let v = take 16 c.args.bytes.now in
    ap (count_trailing_zeros 64) c.marks-stops.ensures ∙ trailing_mask_l is_stop 64 v
    (omega (arith, length-chunk 0 16 c.args.bytes.now c.requires)) (omega (arith, c.marks-stops.ensures))
