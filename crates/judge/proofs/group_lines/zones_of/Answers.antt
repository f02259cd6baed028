use Rattle.std.proofs.Common.{◌≡◌, ◌++◌, ◌∙◌, List, ℕ, ap}
use Rattle.std.specs.Prelude.{codes}
use Rattle.gz_names.specs.declared.commands.Cmd.TheVariants.{Gc}
use Rattle.judge.proofs.GroupLines.{gc_spelt}
use Rattle.judge.proofs.group_lines.zones_of.Goals as goal

pub returns-in-Err : goal.returns-in-Err
returns-in-Err c = λ zones spells.
    let is : c.as_slice.result.now ≡ codes "gc" ++ c.args.words.now =
    c.as_slice.ensures.value ∙ c.in_ok-extend_from_slice.ensures.items
    ∙ ap (λ (l : List ℕ). l ++ c.args.words.now) c.in_ok-line.ensures.items in
    let read = c.parse.ensures.exact (Gc zones) (gc_spelt c.as_slice.result.now c.args.words.now zones is spells) in
    absurd (cc (read, c.in-Err.is))

pub returns : goal.returns
returns c = λ zones spells.
    let is : c.as_slice.result.now ≡ codes "gc" ++ c.args.words.now =
    c.as_slice.ensures.value ∙ c.in_ok-extend_from_slice.ensures.items
    ∙ ap (λ (l : List ℕ). l ++ c.args.words.now) c.in_ok-line.ensures.items in
    let read = c.parse.ensures.exact (Gc zones) (gc_spelt c.as_slice.result.now c.args.words.now zones is spells) in
    c.zones_of_gc.ensures zones (cc (read, c.in-Ok.is))
