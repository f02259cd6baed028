use Rattle.std.proofs.Common.{◌≡◌, ◌∙◌, ◌+◌, suc, length, refl, sym, ap, arith}
use Rattle.std.specs.Option.{option_map}
use Rattle.gz_names.specs.Moves.{moved}
use Rattle.arena_table.specs.Cells.{CellState, field_of, state_of, with_value}
use Rattle.arena_table.proofs.Forwarding.{length-so_far, set-joined, so_far, so_far-all, so_far-step}
use Rattle.arena_table.proofs.cells.Cell.forward.Goals as goal

pub forward_field-requires-clause-field : goal.forward_field-requires-clause-field
forward_field-requires-clause-field c =
    let goes = option_map (moved c.args.moves.now) in
    let fields = (state_of c.args.self.now).fields in
    let same = ap (λ (s : CellState). length s.fields) c.loop-f.invariant in
    let long = length-so_far goes c.loop-f.f fields in
    omega (arith, same, long, c.field_count-f-end.ensures.count)

pub loop-f-preserved : goal.loop-f-preserved
loop-f-preserved c =
    let goes = option_map (moved c.args.moves.now) in
    let old = state_of c.args.self.now in
    let fields = old.fields in
    c.forward_field.ensures
    ∙ ap (λ (s : CellState). with_value c.loop-f.f (goes (field_of s c.loop-f.f)) s) c.loop-f.invariant
    ∙ ap (λ fs. record old { fields = fs })
    (set-joined goes (so_far goes c.loop-f.f fields) c.loop-f.f ∙ so_far-step goes c.loop-f.f fields
    ∙ ap (λ n. so_far goes n fields) (let next : suc c.loop-f.f ≡ c.loop-f.f + 1 = omega arith in next))

pub returns : goal.returns
returns c =
    let goes = option_map (moved c.args.moves.now) in
    let old = state_of c.args.self.now in
    c.loop-f.invariant
    ∙ ap (λ fs. record old { fields = fs }) (so_far-all goes c.loop-f.f old.fields
    (omega (arith, c.field_count-f-end.ensures.count)))
