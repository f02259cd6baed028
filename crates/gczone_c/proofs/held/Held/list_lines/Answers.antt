use Rattle.std.proofs.Common.{◌≡◌, ◌∙◌, Ok, Err, Option, Some, None, IfSome, refl, subst}
use Rattle.gczone_c.proofs.held.Held.list_lines.Goals as goal

-- what is said of something that is there
of_some : {T : Type 0} (P : T → Type 0) {o : Option T} {x : T} → o ≡ Some x → IfSome o P → P x
of_some {T = T} P is says = subst (λ (o : Option T). IfSome o P) is says

pub returns-in-Ok-Some : goal.returns-in-Ok-Some
returns-in-Ok-Some c = record {
  listed = record {
    result = Ok (Some c.in-Ok-Some.lines.items);
    dump = of_some _ c.in-Ok-Some.field-0-is c.in-Ok-Some.ensures.lines;
    marking = λ none. absurd (cc none);
    stays = record {
      collector_is = c.dump.ensures.collector;
      worlds = c.dump.ensures.worlds;
      report = c.dump.ensures.report;
    };
    list_is = refl;
    grays = refl;
    status_is = refl;
    count_is = c.len.ensures ∙ c.in-Ok-Some.lines.ok.0;
  };
}

pub returns-in-Ok-None : goal.returns-in-Ok-None
returns-in-Ok-None c = record {
  listed = record {
    result = Ok None;
    dump = tt;
    marking = λ none. c.in-Ok-None.ensures.marking c.in-Ok-None.field-0-is;
    stays = record {
      collector_is = c.dump.ensures.collector;
      worlds = c.dump.ensures.worlds;
      report = c.dump.ensures.report;
    };
    list_is = refl;
    grays = refl;
    status_is = refl;
    count_is = refl;
  };
}

pub returns-in-Err : goal.returns-in-Err
returns-in-Err c = record {
  listed = record {
    result = Err c.in-Err.field-0;
    dump = tt;
    marking = tt;
    stays = record {
      collector_is = c.dump.ensures.collector;
      worlds = c.dump.ensures.worlds;
      report = c.dump.ensures.report;
    };
    list_is = refl;
    grays = refl;
    status_is = refl;
    count_is = refl;
  };
}
