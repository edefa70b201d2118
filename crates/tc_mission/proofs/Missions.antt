-- A mission is a world, and its ground is a desk.
use Rattle.std.proofs.Common.{◌≡◌, ℕ, ◌==◌, Bool, true, false, inl, inr, Ok, List, [], ◌∷◌, ◌++◌, map, refl, sym, ◌∙◌, ap, subst, append-nil, append_assoc, arith}
use Rattle.std.specs.Prelude.{MatchBool}
use Rattle.std.specs.List.{flat_map, list_all, list_any}
use Rattle.std.proofs.lemmas.Bool.{false≢true, leb-true}
use Rattle.std.proofs.lemmas.Grind.{flat_map-append}
use Rattle.std.proofs.lemmas.List.{map-append}
use Rattle.tc_types.specs.declared.link.frames.Frame.{Frame}
use Rattle.tc_types.specs.declared.link.reports.Report.{Report}
use Rattle.tc_types.specs.declared.link.reports.Report.TheVariants.{Word, Telemetry}
use Rattle.tc_types.specs.declared.link.directives.Directive.{Directive}
use Rattle.tc_farm.specs.declared.farms.FarmView.{FarmView}
use Rattle.tc_farm.specs.Farm.{IsFarm}
use Rattle.tc_fop.specs.declared.signals.Indication.{Indication as Signal}
use Rattle.tc_fop.specs.declared.signals.FopState.{FopState}
use Rattle.tc_fop.specs.declared.signals.FopState.TheVariants.{Initial}
use Rattle.tc_fop.specs.Machine.{Machine, Waiting, Action, after, output, option_list}
use Rattle.tc_fop.specs.Calls.{directed, is_taking}
use Rattle.tc_fop.specs.Standing.{IsFop, is_starting}
use Rattle.tc_fop.specs.Fair.{is_checking}
use Rattle.tc_fop.specs.Moves.{is_initiation}
use Rattle.tc_fop.specs.Requests.{waiting_requests}
use Rattle.tc_world.specs.declared.events.Event.{Event}
use Rattle.tc_world.specs.declared.events.Event.TheVariants as event
use Rattle.tc_world.specs.declared.events.LinkIndication.{LinkIndication}
use Rattle.tc_world.specs.declared.events.LinkIndication.TheVariants.{Fop, Lost}
use Rattle.tc_world.specs.Sublist.{IsSublist, IsSublist-same, IsSublist-behind}
use Rattle.tc_world.specs.Links.{lossy, PutsAll}
use Rattle.tc_world.specs.Logs.{Log, blank, noted}
use Rattle.tc_world.specs.Abstraction.{Bare}
use Rattle.tc_world.specs.Window.{Distinct, all_confirmed}
use Rattle.tc_world.specs.Kept.{IsUnstarted, Starts}
use Rattle.tc_world.specs.Fair.{is_fair}
use Rattle.tc_mission.specs.Mission.{Relay, relayed, Mission, world_of, GoesUp, MissionStep, IsMission, first_mission, from_ground, IsGroundOf, heard_by, IsOverTheAir, taken_by, StepOver, IsSameStep}
use Rattle.tc_world.specs.World.{Happens, Carries, Begins, Directs, Hears, unjudged, clean_after, level_after, is_still_fitting, is_known, all_sent}
use Rattle.tc_world.proofs.Lists.{sublist_trans, sublist_front, sublist_both}
use Rattle.tc_world.proofs.Bridge.{OnlyLoses, happens_seen}
use Rattle.tc_world.proofs.CarryLemmas.{judged}

-- ---- a mission is a world

-- the queue and the air only lose
pub relay_loses : OnlyLoses relayed
relay_loses = record {
  room = λ (r : Relay). refl;
  puts = λ (old new : Relay) (item : Frame) h.
      subst (λ (l : List Frame). IsSublist (new.air ++ new.queue) l) (sym (append_assoc old.air old.queue (item ∷ [])))
      (subst (λ (a : List Frame). IsSublist (a ++ new.queue) (old.air ++ (old.queue ++ item ∷ []))) (sym h.1)
      (sublist_front old.air new.queue (old.queue ++ item ∷ []) h.0));
  takes = λ (old new : Relay) (item : Frame) h. (
    h.0,
    ap (λ (a : List Frame). a ++ old.queue) h.1
        ∙ append_assoc h.0 (item ∷ new.air) old.queue
        ∙ ap (λ (q : List Frame). h.0 ++ item ∷ (new.air ++ q)) (sym h.2),
  );
  loses = λ (old new : Relay) (place : ℕ) (answer : Bool) h.
      subst (λ (q : List Frame). IsSublist (new.air ++ q) (old.air ++ old.queue)) (sym h.1)
      (sublist_both new.air old.air old.queue old.queue h.0 (IsSublist-same old.queue));
}

pub list_loses : {T : Type 0} → OnlyLoses (lossy {T = T})
list_loses {T} = record {
  room = λ (link : List T). refl;
  puts = λ (old new : List T) (item : T) h. h;
  takes = λ (old new : List T) (item : T) h. h;
  loses = λ (old new : List T) (place : ℕ) (answer : Bool) h. h;
}

-- what went up is still there, or lost
gone_up : (m n : Mission) (answer : List LinkIndication) → GoesUp m n answer → IsSublist (n.up.air ++ n.up.queue) (m.up.air ++ m.up.queue)
gone_up m n answer h =
    let queue = n.up.queue in
    let air = m.up.air ++ h.frame ∷ [] in
    let behind : IsSublist (h.frame ∷ queue) m.up.queue =
    subst (λ (l : List Frame). IsSublist (h.frame ∷ queue) l) (sym h.taken) (IsSublist-behind h.lost (h.frame ∷ queue)) in
    sublist_trans (n.up.air ++ queue) (air ++ queue) (m.up.air ++ m.up.queue)
    (sublist_both n.up.air air queue queue h.air (IsSublist-same queue))
    (subst (λ (l : List Frame). IsSublist l (m.up.air ++ m.up.queue)) (sym (append_assoc m.up.air (h.frame ∷ []) queue))
    (sublist_front m.up.air (h.frame ∷ queue) m.up.queue behind))

-- a step of a mission is an event of a world: where the front end takes a frame at most something is lost
pub as_world : (m n : Mission) (answer : List LinkIndication) → MissionStep m n answer
    → (given : Event) × (told : List LinkIndication) × Happens lossy lossy given (world_of m) (world_of n) told
as_world m n answer (inl (given, h)) = (given, answer, happens_seen relayed lossy relay_loses list_loses given m n answer h)
as_world m n answer (inr h) = (
  event.LoseUp 0,
  Lost ∷ [],
  record { found = true; lost = gone_up m n answer h; whole = ap (λ (x : Mission). world_of x) h.whole; answered = refl },
)

-- what is told at a step
pub told_fair : (m n : Mission) (answer : List LinkIndication) → MissionStep m n answer
    → ((given : Event) → Happens lossy lossy given (world_of m) (world_of n) answer → list_all (is_fair m.level m.fop.state) answer ≡ true)
    → list_all (is_fair m.level m.fop.state) answer ≡ true
told_fair m n answer (inl (given, h)) law = law given (happens_seen relayed lossy relay_loses list_loses given m n answer h)
told_fair m n answer (inr h) law = ap (λ (l : List LinkIndication). list_all (is_fair m.level m.fop.state) l) h.answered

-- ---- the first moment

first_unstarted : (fop : Machine) (farm : FarmView) (vc : ℕ) → fop.state ≡ Initial → IsUnstarted (world_of (first_mission fop farm vc))
first_unstarted fop farm vc initial = record {
  base = omega arith;
  sent = refl;
  accepted = refl;
  confirmed = refl;
  up = tt;
  down = tt;
  fop = subst (λ (s : FopState). Starts 0 s fop) (sym initial) tt;
}

pub first_is : (fop : Machine) (farm : FarmView) (vc : ℕ) → IsFop fop → fop.state ≡ Initial → IsFarm farm → farm.lockout ≡ false → IsMission (first_mission fop farm vc)
first_is fop farm vc sound initial farm_sound lockout = record {
  kept = record {
    fop = sound;
    farm = farm_sound;
    words = tt;
    distinct = subst (λ o. Distinct (map (λ (waiting : Waiting). waiting.request) (option_list o))) (sym (sound.no_waiting (ap is_taking initial))) tt;
    past = λ clean. tt;
    sane = λ clean. inl (refl, first_unstarted fop farm vc initial);
  };
  fit = λ clean fits. record {
    k = leb-true fop.k _ fits;
    sane = inl (refl, first_unstarted fop farm vc initial);
    open_farm = lockout;
  };
  fair = λ clean fits. record {
    open_words = tt;
    marked = λ t. absurd (false≢true (sym (ap is_taking initial) ∙ t));
    calming = λ t. absurd (false≢true (sym (ap is_starting initial) ∙ t));
    level = λ t l. absurd (false≢true (sym (ap is_checking initial) ∙ t));
  };
  narrow = λ fits. leb-true fop.k _ fits;
}

-- ---- the ground is a desk

-- the mission with this desk as its ground
abbrev over : Bare → Mission → Mission
over w m = record m { fop = w.fop; up = record { queue = w.up; air = m.up.air }; vc = w.vc }

over_is : (w : Bare) (m : Mission) → IsGroundOf w m → over w m ≡ m
over_is w m g = λ i. record m { fop = sym g.fop i; up = record { queue = sym g.queue i; air = m.up.air }; vc = sym g.vc i }

happens_over : (given : Event) (w : Bare) (m n : Mission) (answer : List LinkIndication) → IsGroundOf w m → Happens relayed lossy given (over w m) n answer → Happens relayed lossy given m n answer
happens_over given w m n answer g h = subst (λ (x : Mission). Happens relayed lossy given x n answer) (over_is w m g) h

-- a part of the logs that the ground sees is the same
part_ground : (part : Log → List ℕ) → ((log : Log) → part (from_ground log) ≡ part log) → (logs : List Log) → flat_map part logs ≡ flat_map part (map from_ground logs)
part_ground part law [] = refl
part_ground part law (log ∷ logs) =
    ap (λ (l : List ℕ). l ++ flat_map part logs) (sym (law log)) ∙ ap (λ (l : List ℕ). part (from_ground log) ++ l) (part_ground part law logs)

parts_of : (part : Log → List ℕ) → ((log : Log) → part (from_ground log) ≡ part log) → (past : List Log) (newest : Log)
    → flat_map part (past ++ newest ∷ []) ≡ flat_map part (map from_ground past) ++ part (from_ground newest)
parts_of part law past newest =
    flat_map-append part past (newest ∷ [])
    ∙ ap (λ (l : List ℕ). l ++ (part newest ++ [])) (part_ground part law past)
    ∙ ap (λ (l : List ℕ). flat_map part (map from_ground past) ++ l) (append-nil (part newest) ∙ sym (law newest))

part_same : (part : Log → List ℕ) → ((log : Log) → part (from_ground log) ≡ part log) → (w : Bare) (m : Mission) → IsGroundOf w m
    → flat_map part (m.past ++ m.newest ∷ []) ≡ flat_map part (w.past ++ w.newest ∷ [])
part_same part law w m g =
    parts_of part law m.past m.newest
    ∙ ap (λ (logs : List Log). flat_map part logs ++ part (from_ground m.newest)) g.past
    ∙ ap (λ (log : Log). flat_map part (map from_ground w.past) ++ part log) g.newest
    ∙ sym (parts_of part law w.past w.newest)

pub sent_same : (w : Bare) (m : Mission) → IsGroundOf w m → all_sent m ≡ all_sent w
sent_same w m g = part_same (λ (log : Log). log.sent) (λ log. refl) w m g

pub confirmed_same : (w : Bare) (m : Mission) → IsGroundOf w m → all_confirmed m ≡ all_confirmed w
confirmed_same w m g = part_same (λ (log : Log). log.confirmed) (λ log. refl) w m g

-- what a step leaves of a mission whose ground is a desk
record Found (P : Mission → Type 0) (v : Bare) (m : Mission) (answer : List LinkIndication) : Type 0 where
  n : Mission
  step : P n
  ground : IsGroundOf v n
  up : n.up.air ≡ m.up.air
  down : n.down ≡ m.down
  farm : n.farm ≡ m.farm
  silent : flat_map taken_by answer ≡ []

-- the FOP tells of no frame that is taken
none_taken : (signals : List Signal) → flat_map taken_by (map Fop signals) ≡ []
none_taken [] = refl
none_taken (signal ∷ signals) = none_taken signals

relay_puts : (air queue : List Frame) (frames : List Frame) (last : List Frame) → PutsAll lossy queue frames last
    → PutsAll relayed (record { queue = queue; air = air }) frames (record { queue = last; air = air })
relay_puts air queue [] last e = λ i. record { queue = e i; air = air }
relay_puts air queue (frame ∷ frames) last (next, put, rest) =
    (record { queue = next; air = air }, (put, refl), relay_puts air next frames last rest)

-- a call of the FOP
calls_over : (w v : Bare) (m : Mission) (actions : List Action) (answer : List LinkIndication) → IsGroundOf w m → Carries lossy actions w v answer
    → Found (λ (n : Mission). Carries relayed actions (over w m) n answer) v m answer
calls_over w v m actions answer g h =
    let out = output actions w.fop in
    record {
      n = record (over w m) { fop = after actions w.fop; up = record { queue = v.up; air = m.up.air }; newest = noted out m.newest };
      step = record {
        ready = record { queue = h.ready; air = m.up.air };
        readied = λ i. record { queue = h.readied i; air = m.up.air };
        frames = relay_puts m.up.air h.ready out.frames v.up h.frames;
        whole = refl;
        answered = h.answered;
      };
      ground = record {
        fop = sym (ap (λ (x : Bare). x.fop) h.whole);
        queue = refl;
        past = g.past ∙ ap (λ (x : Bare). map from_ground x.past) (sym h.whole);
        newest = ap (λ (log : Log). noted out log) g.newest ∙ ap (λ (x : Bare). from_ground x.newest) (sym h.whole);
        vc = sym (ap (λ (x : Bare). x.vc) h.whole);
      };
      up = refl;
      down = refl;
      farm = refl;
      silent = ap (λ (l : List LinkIndication). flat_map taken_by l) h.answered ∙ none_taken out.indications;
    }

-- an initiation
begins_over : (w v : Bare) (m : Mission) (given : Directive) (actions : List Action) (answer : List LinkIndication) → IsGroundOf w m → Begins lossy lossy given actions w v answer
    → Found (λ (n : Mission). Begins relayed lossy given actions (over w m) n answer) v m answer
begins_over w v m given actions answer g h =
    let out = output actions w.fop in
    let earlier : map from_ground (m.past ++ m.newest ∷ []) ≡ map from_ground (w.past ++ w.newest ∷ []) =
    map-append from_ground m.past (m.newest ∷ [])
    ∙ ap (λ (logs : List Log). logs ++ from_ground m.newest ∷ []) g.past
    ∙ ap (λ (log : Log). map from_ground w.past ++ log ∷ []) g.newest
    ∙ sym (map-append from_ground w.past (w.newest ∷ [])) in
    record {
      n = record (over w m) {
        fop = after actions w.fop;
        up = record { queue = v.up; air = m.up.air };
        past = m.past ++ m.newest ∷ [];
        newest = noted out (blank (after actions w.fop).vs);
        clean = clean_after relayed lossy given (over w m);
      };
      step = record {
        ready = record { queue = h.ready; air = m.up.air };
        readied = λ i. record { queue = h.readied i; air = m.up.air };
        frames = relay_puts m.up.air h.ready out.frames v.up h.frames;
        whole = refl;
        answered = h.answered;
      };
      ground = record {
        fop = sym (ap (λ (x : Bare). x.fop) h.whole);
        queue = refl;
        past = earlier ∙ ap (λ (x : Bare). map from_ground x.past) (sym h.whole);
        newest = ap (λ (x : Bare). from_ground x.newest) (sym h.whole);
        vc = sym (ap (λ (x : Bare). x.vc) h.whole);
      };
      up = refl;
      down = refl;
      farm = refl;
      silent = ap (λ (l : List LinkIndication). flat_map taken_by l) h.answered ∙ none_taken out.indications;
    }

directs_over : (w v : Bare) (m : Mission) (given : Directive) (actions : List Action) (answer : List LinkIndication) (initiation : Bool) → IsGroundOf w m
    → MatchBool initiation (Begins lossy lossy given actions w v answer) (Carries lossy actions w v answer)
    → Found (λ (n : Mission). MatchBool initiation (Begins relayed lossy given actions (over w m) n answer) (Carries relayed actions (over w m) n answer)) v m answer
directs_over w v m given actions answer true g h =
    let f = begins_over w v m given actions answer g h in
    record { n = f.n; step = f.step; ground = f.ground; up = f.up; down = f.down; farm = f.farm; silent = f.silent }
directs_over w v m given actions answer false g h =
    let f = calls_over w v m actions answer g h in
    record { n = f.n; step = f.step; ground = f.ground; up = f.up; down = f.down; farm = f.farm; silent = f.silent }

-- what the law says of a step
abbrev Kept : Event → Bare → List LinkIndication → Mission → Type 0
Kept given v answer m = (n : Mission) × IsSameStep given v answer m n

-- the air upwards is as it was where nothing is told to be taken
as_was : (m n : Mission) (answer : List LinkIndication) → n.up.air ≡ m.up.air → flat_map taken_by answer ≡ [] → n.up.air ≡ m.up.air ++ flat_map taken_by answer
as_was m n answer up silent = up ∙ sym (append-nil m.up.air) ∙ ap (λ (l : List Frame). m.up.air ++ l) (sym silent)

-- a directive, with what is known of widths and starts
directs_kept : (w v : Bare) (m : Mission) (given : Directive) (actions : List Action) (answer : List LinkIndication) → IsGroundOf w m → directed w.fop given ≡ Ok actions
    → Directs lossy lossy given actions w (unjudged w v) answer → Kept (event.Directive given) v answer m
directs_kept w v m given actions answer g gives h =
    let f = directs_over w (unjudged w v) m given actions answer (is_initiation given) g h in
    let fits = is_still_fitting f.n in
    let level = level_after relayed lossy given (over w m) in
    let n : Mission = record f.n { fits = fits; level = level } in
    let happens = judged relayed lossy given (over w m) f.n answer fits level (actions, gives, f.step) refl refl in (
      n,
      record {
        step = happens_over (event.Directive given) w m n answer g happens;
        ground = record { fop = f.ground.fop; queue = f.ground.queue; past = f.ground.past; newest = f.ground.newest; vc = f.ground.vc };
        up = as_was m n answer f.up f.silent;
        down = sym f.down;
        farm = f.farm;
      },
    )

-- a call of the FOP without a word
called_kept : (given : Event) (w v : Bare) (m : Mission) (actions : List Action) (answer : List LinkIndication) → heard_by given ≡ [] → IsGroundOf w m
    → Carries lossy actions w v answer → ((n : Mission) → Carries relayed actions (over w m) n answer → Happens relayed lossy given (over w m) n answer)
    → ((n : Mission) → Happens relayed lossy given m n answer → StepOver given m n answer) → Kept given v answer m
called_kept given w v m actions answer nothing g h law as_step =
    let f = calls_over w v m actions answer g h in (
      f.n,
      record {
        step = as_step f.n (happens_over given w m f.n answer g (law f.n f.step));
        ground = f.ground;
        up = as_was m f.n answer f.up f.silent;
        down = sym f.down ∙ ap (λ (l : List Report). l ++ f.n.down) (sym nothing);
        farm = f.farm;
      },
    )

-- the same ground, with less in the air downwards, and a desk of which nothing is known of the starts
ground_hears : (w : Bare) (m : Mission) (left : List Report) → IsGroundOf w m → IsGroundOf (record w { clean = false }) (record m { down = left })
ground_hears w m left g = record { fop = g.fop; queue = g.queue; past = g.past; newest = g.newest; vc = g.vc }

-- what is left in the air
left_down : (m : Mission) (item : Report) (left now : List Report) → m.down ≡ item ∷ left → now ≡ left → m.down ≡ item ∷ now
left_down m item left now air same = air ∙ ap (λ (l : List Report). item ∷ l) (sym same)

-- something is heard
hears_kept : (w v : Bare) (m : Mission) (item : Report) (answer : List LinkIndication) (left : List Report) → IsGroundOf w m → m.down ≡ item ∷ left
    → Hears lossy item (record w { clean = false }) v answer → Kept (event.Hear item) v answer m
hears_kept w v m (Word word) answer left g air (heard, actions, rest, reads, gives, h, answered) =
    let f = calls_over (record w { clean = false }) v (record m { down = left }) actions rest (ground_hears w m left g) h in (
      f.n,
      record {
        step = happens_over event.Downlink w m f.n answer g
            (inr (record { item = Word word; left = left; taken = ([], air); heard = (heard, actions, rest, reads, gives, f.step, answered) }));
        ground = f.ground;
        up = as_was m f.n answer f.up (ap (λ (l : List LinkIndication). flat_map taken_by l) answered ∙ f.silent);
        down = left_down m (Word word) left f.n.down air f.down;
        farm = f.farm;
      },
    )
hears_kept w v m (Telemetry telemetry) answer left g air (readied, whole, answered) =
    let n : Mission = record (over w m) { down = left; up = record { queue = v.up; air = m.up.air } } in (
      n,
      record {
        step = happens_over event.Downlink w m n answer g
            (inr (record {
              item = Telemetry telemetry;
              left = left;
              taken = ([], air);
              heard = ((λ i. record { queue = readied i; air = m.up.air }), refl, answered);
            }));
        ground = record {
          fop = sym (ap (λ (x : Bare). x.fop) whole);
          queue = refl;
          past = g.past ∙ ap (λ (x : Bare). map from_ground x.past) (sym whole);
          newest = g.newest ∙ ap (λ (x : Bare). from_ground x.newest) (sym whole);
          vc = sym (ap (λ (x : Bare). x.vc) whole);
        };
        up = as_was m n answer refl (ap (λ (l : List LinkIndication). flat_map taken_by l) answered);
        down = air;
        farm = refl;
      },
    )

-- the front end takes a frame, or none is there
transmits_kept : (w v : Bare) (m : Mission) (answer : List LinkIndication) → IsGroundOf w m → Happens lossy lossy event.Transmit w v answer → Kept event.Transmit v answer m
transmits_kept w v m answer g (inl (nothing, h)) = (
  m,
  record {
    step = inl refl;
    ground = record {
      fop = g.fop ∙ sym (ap (λ (x : Bare). x.fop) h.same.rest);
      queue = g.queue ∙ sym h.same.up;
      past = g.past ∙ ap (λ (x : Bare). map from_ground x.past) (sym h.same.rest);
      newest = g.newest ∙ ap (λ (x : Bare). from_ground x.newest) (sym h.same.rest);
      vc = g.vc ∙ sym (ap (λ (x : Bare). x.vc) h.same.rest);
    };
    up = as_was m m answer refl (ap (λ (l : List LinkIndication). flat_map taken_by l) h.answered);
    down = refl;
    farm = refl;
  },
)
transmits_kept w v m answer g (inr h) =
    let air = m.up.air ++ h.frame ∷ [] in
    let n : Mission = record (over w m) { up = record { queue = v.up; air = air } } in (
      n,
      record {
        step = inr (subst (λ (x : Mission). GoesUp x n answer) (over_is w m g)
            (record { frame = h.frame; lost = h.taken.0; taken = h.taken.1; air = IsSublist-same air; whole = refl; answered = h.answered }));
        ground = record {
          fop = sym (ap (λ (x : Bare). x.fop) h.whole);
          queue = refl;
          past = g.past ∙ ap (λ (x : Bare). map from_ground x.past) (sym h.whole);
          newest = g.newest ∙ ap (λ (x : Bare). from_ground x.newest) (sym h.whole);
          vc = sym (ap (λ (x : Bare). x.vc) h.whole);
        };
        up = ap (λ (l : List LinkIndication). m.up.air ++ flat_map taken_by l) (sym h.answered);
        down = refl;
        farm = refl;
      },
    )

-- each event of the desk over the air
pub ground_steps : (given : Event) (w v : Bare) (answer : List LinkIndication) (m : Mission) → IsGroundOf w m → IsOverTheAir given m
    → Happens lossy lossy given w v answer → Kept given v answer m
ground_steps (event.Offer request body) w v answer m g air (actions, unknown, gives, h) =
    let fresh : is_known request (over w m) ≡ false =
    ap (λ (sent : List ℕ). list_any (λ (k : ℕ). k == request) (sent ++ waiting_requests w.fop)) (sent_same w m g) ∙ unknown in
    called_kept (event.Offer request body) w v m actions answer refl g h (λ n carries. (actions, fresh, gives, carries)) (λ n happens. happens)
ground_steps (event.Directive given) w v answer m g air (actions, gives, h, fits, level) = directs_kept w v m given actions answer g gives h
ground_steps event.Tick w v answer m g air (actions, gives, h) =
    called_kept event.Tick w v m actions answer refl g h (λ n carries. (actions, gives, carries)) (λ n happens. happens)
ground_steps (event.Uplink room) w v answer m g air h = absurd (false≢true air.own)
ground_steps (event.LoseUp place) w v answer m g air h = absurd (false≢true air.own)
ground_steps event.Release w v answer m g air h = absurd (false≢true air.own)
ground_steps event.Clcw w v answer m g air h = absurd (false≢true air.own)
ground_steps (event.Put telemetry) w v answer m g air h = absurd (false≢true air.own)
ground_steps event.Downlink w v answer m g air h = absurd (false≢true air.own)
ground_steps (event.LoseDown place) w v answer m g air h = absurd (false≢true air.own)
ground_steps event.Transmit w v answer m g air h = transmits_kept w v m answer g h
ground_steps (event.Hear item) w v answer m g air h = hears_kept w v m item answer air.left g air.heard h
