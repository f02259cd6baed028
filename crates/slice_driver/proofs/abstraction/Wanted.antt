-- The world after memory was wanted for a command is valid.
use Rattle.std.proofs.Common.{◌≡◌, Some, inl, inr, sym, subst, ◌∙◌}
use Rattle.gz_names.specs.declared.names.Name.{Name}
use Rattle.gz_names.specs.declared.names.Name.TheVariants.{Cell, Wrap}
use Rattle.gz_names.specs.declared.commands.GraphCmd.{GraphCmd}
use Rattle.colour_defs.specs.Closure.{within_edge, within_key, within_start, within_value}
use Rattle.colour_defs.specs.Laws.{IsValid, IsValidPreparing}
use Rattle.colour_defs.specs.World.{Has, Names, Preparation, WakesLeftOut, World, also_woken_by}
use Rattle.colour_defs.proofs.Carried.{within_in}
use Rattle.slice_driver.specs.Units.{IsAfterWant}
use Rattle.slice_driver.proofs.abstraction.Named.{some_one}

module _ (w : World) (p : Preparation) (at : w.preparing ≡ Some p) (ok : IsValid w) (black : Names)
    (S : Name → Type 0) (wakes : WakesLeftOut w p S (record w { black = black })) where
  abbrev v : World
  v = record w { black = black }

  ready : IsValidPreparing w p
  ready = ok.preparing p at

  still : (x : Name) → Has w.black x → Has black x
  still x has = (wakes x).1 (within_start (inl has) (ready.left_out x has))

  prepares : IsValidPreparing v p
  prepares = record {
    alone = ready.alone;
    some = ready.some;
    left_out = λ x has. within_in ((wakes x).0 has);
    closed = record {
      registers = λ r x e out. still x (ready.closed.registers r x e out);
      edges = λ x y has e out. (wakes y).1 (within_edge ((wakes x).0 has) e out);
      entries = λ m k u e hm hk out. (wakes u).1 (within_value e ((wakes m).0 hm) ((wakes k).0 hk) out);
      delegates = λ m u c t e hm ht out.
          (wakes (Wrap c t)).1 (within_key e ((wakes m).0 hm) ((wakes (Cell t)).0 ht) out);
    };
  }

  pub woken_valid : IsValid v
  woken_valid = record {
    graph = ok.graph;
    presence = record {
      registers = ok.presence.registers;
      slots = ok.presence.slots;
      edges = ok.presence.edges;
      entries = ok.presence.entries;
      keys = ok.presence.keys;
      weak = ok.presence.weak;
      watched = ok.presence.watched;
    };
    made = ok.made;
    settled = λ s. absurd (let none = s.none_preparing in cc (none, at));
    preparing = λ q e. subst (IsValidPreparing v) (some_one _ _ (sym at ∙ e)) prepares;
    running = λ k e. absurd (let alone = ready.alone in cc (alone, e));
    marking = λ k e. absurd (let alone = ready.alone in cc (alone, e));
    groups = λ k gs e. absurd (let alone = ready.alone in cc (alone, e));
    ungrouped = λ k e. absurd (let alone = ready.alone in cc (alone, e));
  }

pub wanted_valid : (w : World) (command : GraphCmd) (v : World) → IsValid w → IsAfterWant w command v → IsValid v
wanted_valid w command v ok (inl same) = subst IsValid (sym same) ok
wanted_valid w command v ok (inr a) = subst IsValid (sym a.2)
    (woken_valid w a.0 a.1 ok v.black (λ s. also_woken_by w.graph command ≡ Some s)
    (subst (WakesLeftOut w a.0 (λ s. also_woken_by w.graph command ≡ Some s)) a.2 a.3))
