use Rattle.std.proofs.Common.{◌≡◌, ◌∙◌, ◌+◌, ℕ, List, Some, ap, eqb, eqb-true, length, subst, sym, true}
use Rattle.std.proofs.lemmas.List.{length-append}
use Rattle.gz_names.specs.declared.zone_sets.ZoneSet.{ZoneSet}
use Rattle.judge.proofs.GroupLines.{ReadSoFar, next_read, read_empty, read_last, read_more, read_none}
use Rattle.judge.proofs.Reading.{no_length}
use Rattle.judge.proofs.Results.{match_none, match_some}
use Rattle.judge.proofs.group_lines.groups_in.Goals as goal

pub returns-then-is_empty : goal.returns-then-is_empty
returns-then-is_empty c = λ groups listed e.
    let none = no_length c.args.text.now (eqb-true (length c.args.text.now) 0 (sym (c.if-is_empty.ensures))) in
    ap Some (c.new-groups.ensures ∙ sym (read_empty c.args.text.now groups listed none e))

pub loop-read-init : goal.loop-read-init
loop-read-init c = record {
  count = ap (λ xs. length xs) c.new-groups.ensures;
  so = subst (λ (xs : List ZoneSet). ReadSoFar c.args.text.now c.args.text.now xs) (sym c.new-groups.ensures)
      (read_none c.args.text.now (λ none. (
      let no : eqb (length c.args.text.now) 0 ≡ true = ap (λ (xs : List ℕ). eqb (length xs) 0) none in
      cc (no, c.if-is_empty.ensures))));
}

pub returns-in_default : goal.returns-in_default
returns-in_default c = λ groups listed e.
    let next =
    next_read c.args.text.now c.loop-read.rest.now c.loop-read.groups groups c.loop-read.invariant.so listed e in
    let words = c.first_group.ensures next.group next.more next.rest_is in
    let read = c.in_ok-group.ensures next.group (next.spells.0, next.spells.1, words.0) in
    absurd (cc (read, c.in_default.is))

pub returns-in_default-others : goal.returns-in_default-others
returns-in_default-others c = λ groups listed e.
    ap Some (c.push.ensures
    ∙ read_last c.args.text.now c.loop-read.rest.now c.loop-read.groups groups c.in-Some.group
    (next_read c.args.text.now c.loop-read.rest.now c.loop-read.groups groups c.loop-read.invariant.so listed e)
    (λ g gs is. (
    let words = c.first_group.ensures g gs is in (
      λ spells. (let read = c.in_ok-group.ensures g (spells.0, spells.1, words.0) in cc (read, c.in-Some.is)),
      match_none c.first_group.result.1 _ _ c.in_default-others.is words.1,
    ))))

pub loop-read-preserved : goal.loop-read-preserved
loop-read-preserved c = record {
  count = ap (λ xs. length xs) c.push.ensures ∙ length-append c.loop-read.groups _
      ∙ ap (λ n. n + 1) c.loop-read.invariant.count;
  so = read_more c.args.text.now c.loop-read.rest.now c.in-Some-others.others.now c.loop-read.groups c.push.new.self
      c.in-Some.group c.loop-read.invariant.so
      (λ g gs is. (
      let words = c.first_group.ensures g gs is in
      let rest = match_some c.first_group.result.1 c.in-Some-others.others _ _ c.in-Some-others.is words.1 in (
        λ spells. (let read = c.in_ok-group.ensures g (spells.0, spells.1, words.0) in cc (read, c.in-Some.is)),
        rest.0,
        rest.1,
      )))
      c.push.ensures;
}
