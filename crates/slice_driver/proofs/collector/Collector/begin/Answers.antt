use Rattle.std.proofs.Common.{◌≡◌, ◌<◌, ◌∙◌, None, ap, sym, subst, rules, ℕ, Some, false, length}
use Rattle.mark_stack.specs.Stack.{Piles}
use Rattle.heap_core.specs.Heap.{without_delayed, HeapState}
use Rattle.barriers.specs.Pending.{pending}
use Rattle.slice_driver.specs.Units.{BeginsIn, BeginsWithin, IsSound}
use Rattle.slice_driver.specs.Collector.{CollectorState}
use Rattle.slice_driver.specs.contracts.collector.Collector.{the_view}
use Rattle.slice_driver.proofs.abstraction.IdleFlight.{idle_sound}
use Rattle.slice_driver.proofs.abstraction.SoundAfter.{begin_sound, none_words}
use Rattle.slice_driver.proofs.group_end.Steps.{small_word}
use Rattle.slice_driver.proofs.beginning.BegunSteps.{at_rest, idle_of, not_running}
use Rattle.slice_driver.proofs.marking.Views.{advanced_pending, advances_seen}
use Rattle.slice_driver.proofs.beginning.Prepared.{begun_in, begun_within, none_out_begun}
use Rattle.slice_driver.proofs.collector.Collector.begin.Goals as goal

pub are_made-requires : goal.are_made-requires
are_made-requires c =
    let rest = at_rest (the_view c.self.inside) c.args.self.now c.self.view_is
    (idle_sound c.args.self.now c.requires.sound.0 c.requires.sound.1) c.running.result c.running.ensures.run
    c.if-running.false in
    (idle_of (the_view c.self.inside) rest.world rest.represents rest.idle).states

pub advance_all-requires : goal.advance_all-requires
advance_all-requires c = record { made = c.are_made.ensures.0 c.if-not-are_made.false }

pub returns : goal.returns
returns c =
    let view : CollectorState = the_view c.self.inside in
    let now : CollectorState = c.args.self.now in
    let k = c.advance_all.new.heap in
    let piles : Piles = pending k c.self.inside.stack in
    let new : ℕ → CollectorState = λ end. record view {
      heap = without_delayed k;
      stack = piles;
      run = Some (record {
        zones = c.args.zones;
        formed = false;
        clearing = Some (record { from = 0; end = end });
      });
    } in
    let end = c.arenas.result in
    let fits : c.args.zones.bits < 18446744073709551616 = search rules in
    let on = advances_seen c.self.inside.heap c.args.zones.bits k c.advance_all.ensures in
    let one_pile = advanced_pending c.self.inside.heap c.args.zones.bits k c.advance_all.ensures c.self.inside.stack in
    let idle_now : now.run ≡ None = not_running c.running.result now.run c.running.ensures.run c.if-running.false in
    let idle : view.run ≡ None = ap (λ (s : CollectorState). s.run) c.self.view_is ∙ idle_now in
    let made = c.are_made.ensures.0 c.if-not-are_made.false in
    let end_is : length view.heap.shape.arenas ≡ end =
    sym (c.arenas.ensures ∙ ap (λ (h : HeapState). length h.shape.arenas) on.rest) in
    let begun : BeginsIn now c.args.zones.bits (new end) =
    subst (λ (s : CollectorState). BeginsIn s c.args.zones.bits (new end)) c.self.view_is
    (subst (λ (n : ℕ). BeginsIn view c.args.zones.bits (new n)) end_is
    (subst (λ (p : Piles). BeginsIn view c.args.zones.bits
    (record (new (length view.heap.shape.arenas)) { stack = p })) one_pile
    (begun_in view c.args.zones (without_delayed k) idle on made c.requires.some))) in
    let within : BeginsWithin now c.args.zones.bits (new end) =
    subst (λ (s : CollectorState). BeginsWithin s c.args.zones.bits (new end)) c.self.view_is
    (subst (λ (n : ℕ). BeginsWithin view c.args.zones.bits (new n)) end_is
    (subst (λ (p : Piles). BeginsWithin view c.args.zones.bits
    (record (new (length view.heap.shape.arenas)) { stack = p })) one_pile
    (begun_within view c.args.zones (without_delayed k) idle on made c.requires.some
    (small_word c.args.zones.bits fits)))) in
    record {
      begun = begun;
      within = within;
      started = ap (λ (n : ℕ). Some (record {
        zones = c.args.zones;
        formed = false;
        clearing = Some (record { from = 0; end = n });
      })) (sym end_is ∙ ap (λ (s : CollectorState). length s.heap.shape.arenas) c.self.view_is);
      made_zones = search rules;
      running = search rules;
      no_zone = search rules;
      refused = tt;
      sound = λ flown s. begin_sound now (new end) c.args.zones.bits flown begun s;
      words = none_words now.heap.shape k.shape
          (none_out_begun view c.args.zones (without_delayed k) c.requires.sound.0
          (subst (λ (s : CollectorState). IsSound s c.requires.sound.0) (sym c.self.view_is) c.requires.sound.1)
          idle on);
      made = search rules;
      ledger = search rules;
      weak = search rules;
    }
