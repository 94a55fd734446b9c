use Rattle.std.proofs.Common.{ℕ, List, [], ◌++◌, length, refl, sym, ap, subst, ◌∙◌, arith, inl, inr}
use Rattle.std.specs.Prelude.{vec_capacity}
use Rattle.std.proofs.lemmas.Grind.{common_steps}
use Rattle.proof_network_bridge.specs.WorldViews.{limit_in}
use Rattle.world.specs.Steps.{ByTheEngine, ByTheWorld, ForRoom, HasOwnBytes, IsWhy}
use Rattle.world.specs.Views.{gave_in, refusal_in}
use Rattle.world.specs.declared.refusal.WorldRefusal.{WorldRefusal}
use Rattle.world.proofs.RefusalRules.{asked_and_refused, none_asked}
use Rattle.world.proofs.Places.{sound_placed}
use Rattle.world.proofs.Sound.{event_sound, fault_as, sound_same, went}
use Rattle.world.proofs.Refusals.{copied_call, had_no_room, refusal_sound, refused_plainly, refused_so}
use Rattle.world.proofs.world.advance.Goals as goal

pub run_event-requires-clause-placed : goal.run_event-requires-clause-placed
run_event-requires-clause-placed c = sound_placed _ _ _ c.requires

pub returns-in-Err-clause-exact : goal.returns-in-Err-clause-exact
returns-in-Err-clause-exact c =
    refused_plainly (record {
      engines = c.args.engines.now.items;
      datagrams = c.args.datagrams.now.items;
      history =
          c.args.history.now.items;
      datagram_room = vec_capacity c.args.datagrams.now;
      entry_room =
          vec_capacity c.args.history.now;
    }) _ _ _ _ _ _ _
    c.requires refl refl refl c.plain.ensures.reset c.plain.ensures.event
    (subst (λ (x : WorldRefusal). IsWhy
    (record {
      engines = c.args.engines.now.items;
      datagrams = c.args.datagrams.now.items;
      history =
          c.args.history.now.items;
      datagram_room = vec_capacity c.args.datagrams.now;
      entry_room =
          vec_capacity c.args.history.now;
    }) c.args.event x []) (sym c.plain.ensures.refused)
    (ByTheWorld
    (fault_as _ _ _ _ _ _ _ _ (ap length c.deref.ensures.value) (ap limit_in c.deref.ensures.value)
    c.deref-2.ensures.value c.in-Err.ensures.fault)
    refl))

pub returns-in-Some-clause-exact : goal.returns-in-Some-clause-exact
returns-in-Some-clause-exact c =
    refused_plainly (record {
      engines = c.args.engines.now.items;
      datagrams = c.args.datagrams.now.items;
      history =
          c.args.history.now.items;
      datagram_room = vec_capacity c.args.datagrams.now;
      entry_room =
          vec_capacity c.args.history.now;
    }) _ _ _ _ _ _ _
    c.requires refl refl refl c.plain-in-Some.ensures.reset (c.plain-in-Some.ensures.event ∙
    c.ask_at-fault.ensures.event)
    (asked_and_refused (record {
      engines = c.args.engines.now.items;
      datagrams = c.args.datagrams.now.items;
      history =
          c.args.history.now.items;
      datagram_room = vec_capacity c.args.datagrams.now;
      entry_room =
          vec_capacity c.args.history.now;
    }) _ _ _ _ _ _ _
    (fault_as _ _ _ _ _ _ _ _ (ap length c.deref.ensures.value) (ap limit_in c.deref.ensures.value)
    c.deref-2.ensures.value c.in-Ok.ensures.allowed)
    c.deref-3.ensures.value c.deref-2.ensures.value c.in-Ok.ensures.target c.ask_at-fault.ensures.fault c.in-Some.is
    c.plain-in-Some.ensures.refused)

pub returns-then-not-make_room-clause-exact : goal.returns-then-not-make_room-clause-exact
returns-then-not-make_room-clause-exact c =
    refused_plainly (record {
      engines = c.args.engines.now.items;
      datagrams = c.args.datagrams.now.items;
      history =
          c.args.history.now.items;
      datagram_room = vec_capacity c.args.datagrams.now;
      entry_room =
          vec_capacity c.args.history.now;
    }) _ _ _ _ _ _ _
    c.requires refl c.make_room.ensures.datagrams c.make_room.ensures.history
    c.plain-then-not-make_room.ensures.reset (c.plain-then-not-make_room.ensures.event ∙ c.ask_at-fault.ensures.event)
    (ForRoom (fault_as _ _ _ _ _ _ _ _ (ap length c.deref.ensures.value) (ap limit_in c.deref.ensures.value)
    c.deref-2.ensures.value
    c.in-Ok.ensures.allowed)
    (none_asked _ _ _ _ _ _ _ c.deref-3.ensures.value c.deref-2.ensures.value c.in-Ok.ensures.target
    c.ask_at-fault.ensures.fault c.in_default.is)
    (inl (had_no_room _ _ _ _ c.make_room.result (c.len.ensures ∙ c.args.engines.now.ok.0) c.args.datagrams.now.ok.0
    c.args.history.now.ok.0 c.make_room.ensures.enough (grind (arith, common_steps))))
    c.plain-then-not-make_room.ensures.refused refl)

pub returns-in_default-try_clone-clause-exact : goal.returns-in_default-try_clone-clause-exact
returns-in_default-try_clone-clause-exact c =
    refused_plainly (record {
      engines = c.args.engines.now.items;
      datagrams = c.args.datagrams.now.items;
      history =
          c.args.history.now.items;
      datagram_room = vec_capacity c.args.datagrams.now;
      entry_room =
          vec_capacity c.args.history.now;
    }) _ _ _ _ _ _ _
    c.requires refl c.make_room.ensures.datagrams c.make_room.ensures.history
    c.plain-in_default-try_clone.ensures.reset (c.plain-in_default-try_clone.ensures.event ∙
    c.ask_at-fault.ensures.event)
    (ForRoom (fault_as _ _ _ _ _ _ _ _ (ap length c.deref.ensures.value) (ap limit_in c.deref.ensures.value)
    c.deref-2.ensures.value
    c.in-Ok.ensures.allowed)
    (none_asked _ _ _ _ _ _ _ c.deref-3.ensures.value c.deref-2.ensures.value c.in-Ok.ensures.target
    c.ask_at-fault.ensures.fault c.in_default.is)
    (inr (copied_call (record {
      engines = c.args.engines.now.items;
      datagrams = c.args.datagrams.now.items;
      history =
          c.args.history.now.items;
      datagram_room = vec_capacity c.args.datagrams.now;
      entry_room =
          vec_capacity c.args.history.now;
    })
    c.args.event
    (fault_as _ _ _ _ _ _ _ _ (ap length c.deref.ensures.value) (ap limit_in c.deref.ensures.value)
    c.deref-2.ensures.value c.in-Ok.ensures.allowed)
    (subst HasOwnBytes c.ask_at-fault.ensures.event c.in_default-try_clone.ensures.bytes)))
    c.plain-in_default-try_clone.ensures.refused refl)

pub returns-in-Ok-run_event-clause-exact : goal.returns-in-Ok-run_event-clause-exact
returns-in-Ok-run_event-clause-exact c =
    went (record {
      engines = c.args.engines.now.items;
      datagrams = c.args.datagrams.now.items;
      history =
          c.args.history.now.items;
      datagram_room = vec_capacity c.args.datagrams.now;
      entry_room =
          vec_capacity c.args.history.now;
    }) _ c.args.event (gave_in c.in-Ok-run_event.given) _
    c.requires
    (fault_as _ _ _ _ _ _ _ _ (ap length c.deref.ensures.value) (ap limit_in c.deref.ensures.value)
    c.deref-2.ensures.value c.in-Ok.ensures.allowed)
    (rw (
      c.deref-4.ensures.value,
      c.make_room.ensures.datagrams,
      c.in-Ok-try_clone.ensures.copy,
      c.ask_at-fault.ensures.event,
    ) at c.in-Ok-run_event.ensures.exact)
    (c.note.ensures.numbered ∙
    ap (λ (x : List (ℕ × List ℕ)). x ++ c.in-Ok-run_event.given.out.items) c.make_room.ensures.datagrams)
    (grind (arith, common_steps))
    (grind (arith, common_steps))

pub returns-in-Ok-run_event-clause-sound : goal.returns-in-Ok-run_event-clause-sound
returns-in-Ok-run_event-clause-sound c =
    sound_same _ _ _ _ _ _ refl
    (c.note.ensures.numbered ∙
    ap (λ (x : List (ℕ × List ℕ)). x ++ c.in-Ok-run_event.given.out.items) c.make_room.ensures.datagrams)
    (grind (arith, common_steps))
    (event_sound c.args.engines.now.items c.run_event.new.engines.items c.args.datagrams.now.items
    c.args.history.now.items c.args.event (gave_in c.in-Ok-run_event.given)
    c.requires
    (fault_as _ _ _ _ _ _ _ _ (ap length c.deref.ensures.value) (ap limit_in c.deref.ensures.value)
    c.deref-2.ensures.value c.in-Ok.ensures.allowed)
    (rw (
      c.deref-4.ensures.value,
      c.make_room.ensures.datagrams,
      c.in-Ok-try_clone.ensures.copy,
      c.ask_at-fault.ensures.event,
    ) at c.in-Ok-run_event.ensures.exact) c.in-Ok-run_event.ensures.world)

pub returns-in-Err-run_event-clause-sound : goal.returns-in-Err-run_event-clause-sound
returns-in-Err-run_event-clause-sound c =
    sound_same _ _ _ _ _ _ c.in-Err-run_event.ensures.unchanged
    (c.refuse.ensures.numbered ∙
    ap (λ (x : List (ℕ × List ℕ)). x ++ c.in-Err-run_event.rejected.out.items) c.make_room.ensures.datagrams)
    c.make_room.ensures.history
    (refusal_sound c.args.engines.now.items c.args.datagrams.now.items c.args.history.now.items c.args.event
    (refusal_in c.in-Err-run_event.rejected)
    c.requires
    (fault_as _ _ _ _ _ _ _ _ (ap length c.deref.ensures.value) (ap limit_in c.deref.ensures.value)
    c.deref-2.ensures.value c.in-Ok.ensures.allowed)
    (rw (
      c.deref-4.ensures.value,
      c.make_room.ensures.datagrams,
      c.in-Ok-try_clone.ensures.copy,
      c.ask_at-fault.ensures.event,
      c.in-Err-run_event.ensures.unchanged,
    ) at c.in-Err-run_event.ensures.exact))

pub returns-in-Err-run_event-clause-exact : goal.returns-in-Err-run_event-clause-exact
returns-in-Err-run_event-clause-exact c =
    refused_so (record {
      engines = c.args.engines.now.items;
      datagrams = c.args.datagrams.now.items;
      history =
          c.args.history.now.items;
      datagram_room = vec_capacity c.args.datagrams.now;
      entry_room =
          vec_capacity c.args.history.now;
    }) _ _ _ _ _ _ _
    c.in-Err-run_event.rejected.out.items c.requires c.in-Err-run_event.ensures.unchanged
    (c.refuse.ensures.numbered ∙
    ap (λ (x : List (ℕ × List ℕ)). x ++ c.in-Err-run_event.rejected.out.items) c.make_room.ensures.datagrams)
    c.make_room.ensures.history (grind (arith, common_steps)) (c.refuse.ensures.event ∙ c.ask_at-fault.ensures.event)
    (ByTheEngine (refusal_in c.in-Err-run_event.rejected)
    (fault_as _ _ _ _ _ _ _ _ (ap length c.deref.ensures.value) (ap limit_in c.deref.ensures.value)
    c.deref-2.ensures.value c.in-Ok.ensures.allowed)
    c.refuse.ensures.refused refl
    (rw (
      c.deref-4.ensures.value,
      c.make_room.ensures.datagrams,
      c.in-Ok-try_clone.ensures.copy,
      c.ask_at-fault.ensures.event,
      c.in-Err-run_event.ensures.unchanged,
    ) at c.in-Err-run_event.ensures.exact))
