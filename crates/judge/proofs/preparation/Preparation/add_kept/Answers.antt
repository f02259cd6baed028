use Rattle.std.proofs.Common.{◌∙◌, sym}
use Rattle.std.proofs.lemmas.Result.{on_ok_weaker}
use Rattle.judge.proofs.LeftOut.{keeps_key, keeps_none, keeps_value}
use Rattle.judge.proofs.preparation.Preparation.add_kept.Goals as goal

pub returns-in_default : goal.returns-in_default
returns-in_default c =
    keeps_none c.args.graph.now c.args.self.now c.args.map c.args.key
    (λ v e hm. absurd (let none = sym c.value_of.ensures ∙ c.in_default.is in cc (none, e)))

pub returns-then-not-is_black : goal.returns-then-not-is_black
returns-then-not-is_black c =
    keeps_none c.args.graph.now c.args.self.now c.args.map c.args.key
    (λ v e hm. absurd (let has = c.is_black.ensures.1 hm in cc (has, c.if-not-is_black.true)))

pub returns-then-is_black : goal.returns-then-is_black
returns-then-is_black c =
    on_ok_weaker c.add.result (λ a. keeps_value c.args.graph.now c.args.self.now c.add.new.self c.args.map c.args.key
    c.in-Some.value (sym c.value_of.ensures ∙ c.in-Some.is) (c.is_black.ensures.0 c.if-not-is_black.false)
    (c.is_black-2.ensures.0 c.if-is_black.true) a) c.add.ensures

pub returns-then-has_delegate : goal.returns-then-has_delegate
returns-then-has_delegate c =
    on_ok_weaker c.add-then-has_delegate.result (λ a. keeps_key c.args.graph.now c.args.self.now
    c.add-then-has_delegate.new.self c.args.map c.args.key c.in-Some.value (sym c.value_of.ensures ∙ c.in-Some.is)
    (record {
      map_black = c.is_black.ensures.0 c.if-not-is_black.false;
      key_not = λ h. let has = c.is_black-2.ensures.1 h in cc (has, c.if-is_black.false);
      target_black = c.has_delegate.ensures.0 c.if-has_delegate.true;
    }) a) c.add-then-has_delegate.ensures

pub returns : goal.returns
returns c =
    keeps_none c.args.graph.now c.args.self.now c.args.map c.args.key
    (λ v e hm. (
      λ h. let has = c.is_black-2.ensures.1 h in cc (has, c.if-is_black.false),
      λ h. let has = c.has_delegate.ensures.1 h in cc (has, c.if-has_delegate.false),
    ))
