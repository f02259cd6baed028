use Rattle.std.proofs.Common.{rules, ◌≡◌, ℕ, ◌<◌, List, length, ap, ◌∙◌, length-set}
use Rattle.mark_words.proofs.Closing.{copied, closing}
use Rattle.mark_words.proofs.marks.Marks.close.Goals as goal

pub loop-index-preserved : goal.loop-index-preserved
loop-index-preserved g c = (
  length-set c.loop-index.words.items c.loop-index.index c.word.result ∙ c.loop-index.invariant.0,
  copied c.loop-index.words.items c.close_with-closed.result.words.items c.loop-index.index c.word.result
      (search rules) c.word.ensures c.loop-index.invariant.1,
)

pub returns-clause-bits : goal.returns-clause-bits
returns-clause-bits g c =
    let first : List ℕ = c.args.self.table.shared.key.items in
    let keyed : length first ≡ length c.args.self.words.items = ap (λ v. length v.items) c.args.self.keyed in
    let long : (i : ℕ) → i < length first → i < c.loop-index.index = λ i lt. search rules in
    closing g.L.PlaceList.places first c.close_with-closed.result.words.items c.loop-index.words.items
    c.close_with-closed.result.slots.items c.args.seat.seat.id c.args.seat.seat.me.0
    c.close_with-closed.ensures.values.2 c.requires.parts
    (λ i lt. c.loop-index.invariant.1 i (long i lt))
