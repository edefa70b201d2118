-- A session that has not started, and a call of the FOP; and an initiation.
use Rattle.std.proofs.Common.{◌≡◌, ℕ, ◌+◌, ◌%◌, ◌<◌, ◌≤◌, ◌==◌, ◌⊎◌, inl, inr, ⊎_elim, Bool, true, false, if◌then◌else◌, Option, Some, None, List, [], ◌∷◌, ◌++◌, length, map, not, refl, sym, ◌∙◌, ap, subst, append-nil, append_assoc, arith}
use Rattle.std.proofs.lemmas.Bool.{false≢true, eqb-true}
use Rattle.tc_types.specs.declared.link.frames.Frame.{Frame}
use Rattle.tc_types.specs.declared.link.reports.Report.{Report}
use Rattle.tc_farm.specs.declared.clcws.Clcw.{Clcw}
use Rattle.tc_farm.specs.declared.farms.FarmView.{FarmView}
use Rattle.tc_farm.specs.Farm.{distance}
use Rattle.tc_types.specs.declared.link.directives.Directive.{Directive}
use Rattle.tc_types.specs.declared.link.directives.Directive.TheVariants as directive
use Rattle.tc_fop.specs.declared.signals.FopState.{FopState}
use Rattle.tc_fop.specs.declared.signals.FopState.TheVariants.{Active, RetransmitWithoutWait, RetransmitWithWait, InitialisingWithoutBc, InitialisingWithBc, Initial}
use Rattle.tc_fop.specs.declared.signals.Indication.{Indication}
use Rattle.tc_fop.specs.declared.signals.Indication.TheVariants as indication
use Rattle.tc_fop.specs.Machine.{Machine, Held, Out, option_list}
use Rattle.tc_fop.specs.Calls.{is_taking, is_initial}
use Rattle.tc_fop.specs.Standing.{IsFop, is_starting}
use Rattle.tc_fop.specs.Moves.{is_initiation, Initiates, MovesIn, Opens, Rests, BeginsBy, confirmed_in, transmitted_in, starts_in, control_of, initiated_state}
use Rattle.tc_world.specs.Sublist.{IsSublist}
use Rattle.tc_world.specs.Links.{lossy}
use Rattle.tc_world.specs.Logs.{Log, blank, noted, is_some_start}
use Rattle.tc_world.specs.Session.{SessionRun, nothing_yet}
use Rattle.tc_world.specs.Abstraction.{Bare, session_with}
use Rattle.tc_world.specs.World.{is_good_start, is_level, is_level_for, is_nothing}
use Rattle.tc_world.specs.Kept.{IsStarted, IsUnstarted, AreFrames, IsLeftover, IsInWindow, IsStarting, Stands, Starts, Each, Pairs, AreControls, AreWords, Sticks}
use Rattle.tc_world.proofs.Moving.{Moving, IsFollowed}
use Rattle.tc_world.proofs.Lists.{each_map}
use Rattle.tc_world.proofs.FrameLists.{frames_controls, controls_leftover, controls_sub, controls_append}
use Rattle.tc_world.proofs.WordLists.{words_at_base}

-- where a control word reports the base, all behind it do, and V(R) is the base
abbrev pub IsHeardWell : Option Clcw → Bare → Type 0
IsHeardWell None w = Unit {0}
IsHeardWell (Some clcw) w = (clcw.report < 256) × IsFollowed clcw.report w

-- ---- logs with empty lists

-- a log of which nothing is written but that its session started
abbrev pub begun : ℕ → Log
begun base = record { base = base; started = true; sent = []; accepted = []; confirmed = [] }

-- a log of which nothing is written but whether its session started
abbrev pub log_after : ℕ → List Indication → Log
log_after base starts = record { base = base; started = is_some_start starts; sent = []; accepted = []; confirmed = [] }

-- a log, by its parts
log_of : (log : Log) (started : Bool) → log.started ≡ started → log.sent ≡ [] → log.accepted ≡ [] → log.confirmed ≡ []
    → log ≡ record { base = log.base; started = started; sent = []; accepted = []; confirmed = [] }
log_of log started a b c d =
    ap (λ (x : Bool). record log { started = x }) a
    ∙ ap (λ (x : List ℕ). record log { started = started; sent = x }) b
    ∙ ap (λ (x : List ℕ). record log { started = started; sent = []; accepted = x }) c
    ∙ ap (λ (x : List ℕ). record log { started = started; sent = []; accepted = []; confirmed = x }) d

-- the log of a session that has not started, after a call that sends and confirms nothing
unstarted_log : (w : Bare) (out : Out) → w.newest.started ≡ false → IsUnstarted w → transmitted_in out ≡ []
    → confirmed_in out ≡ []
    → noted out w.newest ≡ log_after w.newest.base (starts_in out)
unstarted_log w out started kept transmits confirms =
    log_of (noted out w.newest) (is_some_start (starts_in out))
    (ap (λ (b : Bool). if b then true else is_some_start (starts_in out)) started)
    (ap (λ (l : List ℕ). l ++ transmitted_in out) kept.sent ∙ transmits)
    kept.accepted
    (ap (λ (l : List ℕ). l ++ confirmed_in out) kept.confirmed ∙ confirms)

-- ---- the two worlds that come out

-- a blank log, and nothing in flight but control commands and words that stick to the base
unstarted_at : (w : Bare) (base : ℕ) → w.newest ≡ blank base → base < 256 → AreControls base w.up
    → Sticks base w.farm.vr w.down
    → Starts base w.fop.state w.fop → (w.newest.started ≡ false) × IsUnstarted w
unstarted_at w base newest small up down fop =
    let moved : (P : Log → Type 0) → P (blank base) → P w.newest = λ P x. subst P (sym newest) x in (
      ap (λ (n : Log). n.started) newest,
      record {
        base = moved (λ (n : Log). n.base < 256) small;
        sent = ap (λ (n : Log). n.sent) newest;
        accepted = ap (λ (n : Log). n.accepted) newest;
        confirmed = ap (λ (n : Log). n.confirmed) newest;
        up = moved (λ (n : Log). AreControls n.base w.up) up;
        down = moved (λ (n : Log). Sticks n.base w.farm.vr w.down) down;
        fop = moved (λ (n : Log). Starts n.base w.fop.state w.fop) fop;
      },
    )

-- zeros rise
zeros_rise : (rs : List ℕ) → Each (λ (r : ℕ). r ≡ 0) rs → Pairs (λ (r q : ℕ). r ≤ q) rs
zeros_rise [] e = tt
zeros_rise (r ∷ rs) e =
    (each_map (λ (q : ℕ). q ≡ 0) (λ (q : ℕ). r ≤ q) rs (λ q z. omega (arith, e.0, z)) e.1, zeros_rise rs e.1)

-- nothing was sent, and reports of 0 are in flight: the window is kept
pub zeros_window : (bound : ℕ) → bound ≤ 255 → (base : ℕ) (rs : List ℕ) → Each (λ (r : ℕ). r ≡ 0) rs → IsInWindow bound (session_with (begun base) [] rs)
zeros_window bound fit base rs zeros = record {
  small = fit;
  accepted = refl;
  confirmed = refl;
  confirmed_few = omega arith;
  accepted_few = omega arith;
  sent_few = omega arith;
  up_low = tt;
  up_high = tt;
  up_order = tt;
  down_low = each_map (λ (r : ℕ). r ≡ 0) (λ (r : ℕ). 0 ≤ r) rs (λ r z. omega arith) zeros;
  down_high = each_map (λ (r : ℕ). r ≡ 0) (λ (r : ℕ). r ≤ 0) rs (λ r z. omega (arith, z)) zeros;
  down_order = zeros_rise rs zeros;
}

-- where nothing was accepted, each 0 is one report
zeros_run : (bound : ℕ) → (base : ℕ) (front rs : List ℕ) → Each (λ (r : ℕ). r ≡ 0) rs
    → SessionRun bound (session_with (begun base) [] front) (session_with (begun base) [] (front ++ rs))
zeros_run bound base front [] zeros = ([], ap (λ (l : List ℕ). session_with (begun base) [] l) (append-nil front))
zeros_run bound base front (r ∷ rs) zeros =
    let next = session_with (begun base) [] (front ++ 0 ∷ []) in
    let more = zeros_run bound base (front ++ 0 ∷ []) rs zeros.1 in
    let same : front ++ r ∷ rs ≡ (front ++ 0 ∷ []) ++ rs =
    ap (λ (x : ℕ). front ++ x ∷ rs) zeros.0 ∙ sym (append_assoc front (0 ∷ []) rs) in
    subst (λ (l : List ℕ). SessionRun bound (session_with (begun base) [] front) (session_with (begun base) [] l))
    (sym same)
    (next ∷ more.0, (inr (inr (inr (inl refl))), more.1))

-- a session that has started with nothing sent, while each word in flight reports the base
started_at : (bound : ℕ) → bound ≤ 255 → (w : Bare) (base : ℕ) (rs : List ℕ) → w.newest ≡ begun base → base < 256 → AreControls base w.up
    → Each (λ (r : ℕ). r ≡ 0) rs → AreWords base w.down rs → w.farm.vr ≡ base
    → is_taking w.fop.state ≡ true → w.fop.vs ≡ base → w.fop.nn ≡ base → w.fop.sent ≡ [] → IsStarted bound w [] rs
started_at bound fit w base rs newest small up zeros words vr taking vs nn sent =
    let moved : (P : Log → Type 0) → P (begun base) → P w.newest = λ P x. subst P (sym newest) x in
    let level : base ≡ (base + 0) % 256 = omega (arith, small) in
    record {
      base = moved (λ (n : Log). n.base < 256) small;
      window = moved (λ (n : Log). IsInWindow bound (session_with n [] rs)) (zeros_window bound fit base rs zeros);
      frames = moved (λ (n : Log). AreFrames n.base n.sent w.up []) (frames_controls base [] w.up up);
      leftover = moved (λ (n : Log). IsLeftover n.base (length n.accepted) w.up) (controls_leftover base w.up up);
      words = moved (λ (n : Log). AreWords n.base w.down rs) words;
      vr = moved (λ (n : Log). w.farm.vr ≡ (n.base + length n.accepted) % 256) (vr ∙ level);
      fop = inl (
        taking,
        moved (λ (n : Log). Stands n.base (session_with n [] rs) w.fop)
            (record {
              nn = nn ∙ level;
              vs = vs ∙ level;
              sent = ap (λ (l : List Held). map (λ (held : Held). held.request) l) sent;
            }),
      );
    }

-- ---- a call

-- a session that has not started, or one that has, in which each control word in flight flies for 0
abbrev pub IsBegun : ℕ → Bare → Type 0
IsBegun bound v =
    ((v.newest.started ≡ false) × IsUnstarted v)
    ⊎ ((rs : List ℕ) × (v.newest.started ≡ true) × IsStarted bound v [] rs
    × SessionRun bound nothing_yet (session_with v.newest [] rs))

-- a state takes requests, or is one of a start, or is S6
by_kind : (P : Type 0) (s : FopState) → (is_taking s ≡ true → P) → (is_starting s ≡ true → P)
    → (is_initial s ≡ true → P) → P
by_kind P Active taking starting initial = taking refl
by_kind P RetransmitWithoutWait taking starting initial = taking refl
by_kind P RetransmitWithWait taking starting initial = taking refl
by_kind P InitialisingWithoutBc taking starting initial = starting refl
by_kind P InitialisingWithBc taking starting initial = starting refl
by_kind P Initial taking starting initial = initial refl

-- in S4 and S5 the FOP is starting
starts_starting : (base : ℕ) (s : FopState) (m : Machine) → is_starting s ≡ true → IsStarting base m → Starts base s m
starts_starting base Active m e starting = absurd (false≢true e)
starts_starting base RetransmitWithoutWait m e starting = absurd (false≢true e)
starts_starting base RetransmitWithWait m e starting = absurd (false≢true e)
starts_starting base InitialisingWithoutBc m e starting = starting
starts_starting base InitialisingWithBc m e starting = starting
starts_starting base Initial m e starting = absurd (false≢true e)

-- in S6 nothing is said of the FOP
starts_initial : (base : ℕ) (s : FopState) (m : Machine) → is_initial s ≡ true → Starts base s m
starts_initial base Active m e = absurd (false≢true e)
starts_initial base RetransmitWithoutWait m e = absurd (false≢true e)
starts_initial base RetransmitWithWait m e = absurd (false≢true e)
starts_initial base InitialisingWithoutBc m e = absurd (false≢true e)
starts_initial base InitialisingWithBc m e = absurd (false≢true e)
starts_initial base Initial m e = tt

-- before Started a call opens the service or rests
by_move : (P : Type 0) (base : ℕ) (s : FopState) (heard : Option Clcw) (old new : Machine) (out : Out)
    → Starts base s old → MovesIn s heard old new out → (IsStarting base old → Opens heard old new out → P)
    → (Rests old new out → P) → P
by_move P base Active heard old new out starts moves opens rests = absurd starts
by_move P base RetransmitWithoutWait heard old new out starts moves opens rests = absurd starts
by_move P base RetransmitWithWait heard old new out starts moves opens rests = absurd starts
by_move P base InitialisingWithoutBc heard old new out starts moves opens rests = opens starts moves
by_move P base InitialisingWithBc heard old new out starts moves opens rests = opens starts moves
by_move P base Initial heard old new out starts moves opens rests = rests moves

-- no distance lies between two numbers only where they are one
level_equal : (a b : ℕ) → a < 256 → b < 256 → distance a b ≡ 0 → a ≡ b
level_equal a b sa sb e = omega (arith, sa, sb, e)

-- what flies after a call that puts out control commands alone
controls_after : (w v : Bare) (out : Out) (base : ℕ) → IsSublist v.up (w.up ++ out.frames) → AreControls base w.up
    → AreControls base out.frames → AreControls base v.up
controls_after w v out base up old fresh =
    controls_sub base v.up (w.up ++ out.frames) up (controls_append base w.up out.frames old fresh)

-- the start goes on or is given up: nothing starts
still_unstarted : (bound : ℕ) → (heard : Option Clcw) (w v : Bare) (out : Out) → w.newest.started ≡ false → Moving bound heard w v out
    → IsUnstarted w
    → transmitted_in out ≡ [] → confirmed_in out ≡ [] → starts_in out ≡ [] → AreControls w.newest.base out.frames
    → Starts w.newest.base v.fop.state v.fop → IsBegun bound v
still_unstarted bound heard w v out started moving kept transmits confirms none frames starts =
    let base = w.newest.base in
    let newest : v.newest ≡ blank base =
    ap (λ (x : Bare). x.newest) moving.whole ∙ unstarted_log w out started kept transmits confirms
    ∙ ap (log_after base) none in
    let down : Sticks base v.farm.vr v.down =
    subst (λ (x : Bare). Sticks base x.farm.vr x.down) (sym moving.whole) kept.down in
    inl (unstarted_at v base newest kept.base (controls_after w v out base moving.up kept.up frames) down starts)

-- the service begins: each word in flight reports the base
begins_started : (bound : ℕ) → bound ≤ 255 → (heard : Option Clcw) (w v : Bare) (out : Out) → w.newest.started ≡ false → IsHeardWell heard w
    → Moving bound heard w v out → IsUnstarted w → IsStarting w.newest.base w.fop
    → transmitted_in out ≡ [] → confirmed_in out ≡ [] → is_taking v.fop.state ≡ true → BeginsBy heard w.fop v.fop out
    → IsBegun bound v
begins_started bound fit heard w v out started well moving kept starting transmits confirms taking begins =
    let base = w.newest.base in
    let mine : IsHeardWell (Some begins.word) w = subst (λ (h : Option Clcw). IsHeardWell h w) begins.by well in
    let same : begins.word.report ≡ base =
    level_equal begins.word.report base mine.0 kept.base
    (subst (λ (n : ℕ). distance begins.word.report n ≡ 0) starting.nn begins.level) in
    let followed = mine.1 same in
    let words = words_at_base base w.down kept.base followed.0 in
    let newest : v.newest ≡ begun base =
    ap (λ (x : Bare). x.newest) moving.whole ∙ unstarted_log w out started kept transmits confirms
    ∙ ap (log_after base) begins.start in
    let frames : AreControls base out.frames = subst (λ (l : List Frame). AreControls base l) (sym begins.frames) tt in
    let down : AreWords base v.down words.0 =
    subst (λ (x : Bare). AreWords base x.down words.0) (sym moving.whole) words.2 in
    let vr : v.farm.vr ≡ base = subst (λ (x : Bare). x.farm.vr ≡ base) (sym moving.whole) followed.1 in
    inr (
      words.0,
      ap (λ (n : Log). n.started) newest,
      started_at bound fit v base words.0 newest kept.base (controls_after w v out base moving.up kept.up frames) words.1
          down vr taking
          (begins.vs ∙ starting.vs) (begins.nn ∙ starting.nn) begins.sent,
      subst (λ (n : Log). SessionRun bound nothing_yet (session_with n [] words.0)) (sym newest)
          (zeros_run bound base [] words.0 words.1),
    )

-- in S4 and S5
opens_moves : (bound : ℕ) → bound ≤ 255 → (heard : Option Clcw) (w v : Bare) (out : Out) → w.newest.started ≡ false → IsHeardWell heard w
    → Moving bound heard w v out → IsUnstarted w → IsStarting w.newest.base w.fop → Opens heard w.fop v.fop out → IsBegun bound v
opens_moves bound fit heard w v out started well moving kept starting opens =
    let base = w.newest.base in
    let frames : AreControls base out.frames = ⊎_elim
    (λ (none : out.frames ≡ []). subst (λ (l : List Frame). AreControls base l) (sym none) tt)
    (λ (copy : out.frames ≡ option_list w.fop.control).
    subst (λ (l : List Frame). AreControls base l) (sym copy) starting.control)
    opens.frames in
    by_kind (IsBegun bound v) v.fop.state
    (λ taking.
    begins_started bound fit heard w v out started well moving kept starting opens.transmits opens.confirms taking
    (opens.begins taking))
    (λ on.
    let goes = opens.goes_on on in
    still_unstarted bound heard w v out started moving kept opens.transmits opens.confirms goes.no_start frames
    (starts_starting base v.fop.state v.fop on
    (record {
      vs = goes.vs ∙ starting.vs;
      nn = goes.nn ∙ starting.nn;
      control = subst (λ (c : Option Frame). AreControls base (option_list c)) (sym goes.control) starting.control;
    })))
    (λ initial.
    still_unstarted bound heard w v out started moving kept opens.transmits opens.confirms
    (opens.gives_up initial).0 frames
    (starts_initial base v.fop.state v.fop initial))

-- in S6
rests_moves : (bound : ℕ) → (heard : Option Clcw) (w v : Bare) (out : Out) → w.newest.started ≡ false → Moving bound heard w v out
    → IsUnstarted w
    → Rests w.fop v.fop out → IsBegun bound v
rests_moves bound heard w v out started moving kept rests =
    let base = w.newest.base in
    still_unstarted bound heard w v out started moving kept
    (ap transmitted_in rests.silent) (ap confirmed_in rests.silent) (ap starts_in rests.silent)
    (subst (λ (o : Out). AreControls base o.frames) (sym rests.silent) tt)
    (starts_initial base v.fop.state v.fop (ap is_initial rests.state))

-- the service goes on starting, is given up, or begins: then each control word in flight flies for 0
pub unstarted_moves : (bound : ℕ) → bound ≤ 255 → (heard : Option Clcw) (w v : Bare) (out : Out) → w.newest.started ≡ false → IsHeardWell heard w
    → Moving bound heard w v out → IsUnstarted w
    → ((v.newest.started ≡ false) × IsUnstarted v)
    ⊎ ((rs : List ℕ) × (v.newest.started ≡ true) × IsStarted bound v [] rs × SessionRun bound nothing_yet (session_with v.newest [] rs))
unstarted_moves bound fit heard w v out started well moving kept =
    by_move (IsBegun bound v) w.newest.base w.fop.state heard w.fop v.fop out kept.fop moving.moves
    (λ starting opens. opens_moves bound fit heard w v out started well moving kept starting opens)
    (λ rests. rests_moves bound heard w v out started moving kept rests)

-- ---- an initiation

-- a test that asks another one
pub both_true : (a b : Bool) → (if a then b else false) ≡ true → (a ≡ true) × (b ≡ true)
both_true true b e = (refl, e)
both_true false b e = absurd (false≢true e)

-- the test for an empty list
pub nothing_empty : {T : Type 0} (items : List T) → is_nothing items ≡ true → items ≡ []
nothing_empty [] e = refl
nothing_empty (item ∷ items) e = absurd (false≢true e)

-- the world after an initiation
pub record Initiating (given : Directive) (w v : Bare) (out : Out) : Type 0 where
  pub initiation : is_initiation given ≡ true
  pub new_fop : IsFop v.fop
  pub begins : Initiates given w.fop v.fop out
  pub up : IsSublist v.up (w.up ++ out.frames)
  pub whole : v ≡ record w {
    fop = v.fop;
    up = v.up;
    past = w.past ++ w.newest ∷ [];
    newest = noted out (blank v.fop.vs);
    clean = v.clean;
  }

-- a good start starts with nothing in flight
pub good_parts : (given : Directive) (w : Bare) → is_good_start lossy lossy given w ≡ true
    → (w.up ≡ []) × (w.down ≡ []) × (is_level_for given w.fop w.farm ≡ true)
good_parts given w good =
    let first = both_true (is_nothing w.up)
    (if is_nothing w.down then is_level_for given w.fop w.farm else false) good in
    let second = both_true (is_nothing w.down) (is_level_for given w.fop w.farm) first.1 in
    (nothing_empty w.up first.0, nothing_empty w.down second.0, second.1)

-- the log of a session that an initiation begins
fresh_log : (given : Directive) (w v : Bare) (out : Out) (indications : List Indication) → Initiating given w v out
    → out.indications ≡ indications
    → v.newest ≡ noted (record { frames = []; indications = indications }) (blank v.fop.vs)
fresh_log given w v out indications initiating same =
    ap (λ (x : Bare). x.newest) initiating.whole
    ∙ ap (λ (l : List Indication). noted (record { frames = []; indications = l }) (blank v.fop.vs)) same

-- nothing is in flight but the initiation's own control command
pub fresh_up : (given : Directive) (w v : Bare) (out : Out) → Initiating given w v out → w.up ≡ []
    → IsSublist v.up (option_list (control_of given))
fresh_up given w v out initiating none =
    subst (λ (l : List Frame). IsSublist v.up l)
    (ap (λ (l : List Frame). l ++ out.frames) none ∙ initiating.begins.frames) initiating.up

-- with check: the start goes on
checks : (given : Directive) (w v : Bare) (out : Out) → Initiating given w v out
    → is_good_start lossy lossy given w ≡ true
    → is_starting (initiated_state given) ≡ true → is_taking (initiated_state given) ≡ false
    → AreControls v.fop.vs (option_list (control_of given)) → (v.newest.started ≡ false) × IsUnstarted v
checks given w v out initiating good starting taking control =
    let parts = good_parts given w good in
    let begins = initiating.begins in
    let base = v.fop.vs in
    let quiet : out.indications ≡ [] =
    begins.indications
    ∙ ap (λ (b : Bool). if b then indication.Started ∷ [] else []) (ap is_taking begins.state ∙ taking) in
    let none : v.down ≡ [] = ap (λ (x : Bare). x.down) initiating.whole ∙ parts.1 in
    unstarted_at v base (fresh_log given w v out [] initiating quiet) initiating.new_fop.vs
    (controls_sub base v.up (option_list (control_of given)) (fresh_up given w v out initiating parts.0) control)
    (subst (λ (l : List Report). Sticks base v.farm.vr l) (sym none) tt)
    (starts_starting base v.fop.state v.fop (ap is_starting begins.state ∙ starting)
    (record {
      vs = refl;
      nn = begins.nn;
      control = subst (λ (c : Option Frame). AreControls base (option_list c)) (sym begins.control) control;
    }))

-- level sides have V(S) = V(R)
level_equals : (fop : Machine) (farm : FarmView) → is_level fop farm ≡ true → fop.vs ≡ farm.vr
level_equals fop farm e =
    eqb-true fop.vs farm.vr
    (both_true (fop.vs == farm.vr)
    (if farm.lockout then false else if farm.wait then false else not farm.retransmit) e).0

-- without check: the service begins at once
begins_at_once : (bound : ℕ) → bound ≤ 255 → (w v : Bare) (out : Out) → Initiating directive.InitiateNone w v out
    → is_good_start lossy lossy directive.InitiateNone w ≡ true
    → (v.newest.started ≡ true) × IsStarted bound v [] [] × (session_with v.newest [] [] ≡ nothing_yet)
begins_at_once bound fit w v out initiating good =
    let parts = good_parts directive.InitiateNone w good in
    let begins = initiating.begins in
    let base = v.fop.vs in
    let taking : is_taking v.fop.state ≡ true = ap is_taking begins.state in
    let start : out.indications ≡ indication.Started ∷ [] =
    begins.indications ∙ ap (λ (b : Bool). if b then indication.Started ∷ [] else []) taking in
    let newest : v.newest ≡ begun base =
    fresh_log directive.InitiateNone w v out (indication.Started ∷ []) initiating start in
    let up : v.up ≡ [] = fresh_up directive.InitiateNone w v out initiating parts.0 in
    let down : v.down ≡ [] = ap (λ (x : Bare). x.down) initiating.whole ∙ parts.1 in
    let vr : v.farm.vr ≡ base =
    ap (λ (x : Bare). x.farm.vr) initiating.whole ∙ sym (level_equals w.fop w.farm parts.2) ∙ sym begins.vs in (
      ap (λ (n : Log). n.started) newest,
      started_at bound fit v base [] newest initiating.new_fop.vs
          (subst (λ (l : List Frame). AreControls base l) (sym up) tt) tt
          (subst (λ (l : List Report). AreWords base l []) (sym down) refl) vr taking refl begins.nn begins.sent,
      ap (λ (n : Log). session_with n [] []) newest,
    )

-- a good start begins a session of which nothing is in flight but its own control command
pub good_start : (bound : ℕ) → bound ≤ 255 → (given : Directive) (w v : Bare) (out : Out) → Initiating given w v out
    → is_good_start lossy lossy given w ≡ true
    → ((v.newest.started ≡ false) × IsUnstarted v)
    ⊎ ((v.newest.started ≡ true) × IsStarted bound v [] [] × (session_with v.newest [] [] ≡ nothing_yet))
good_start bound fit directive.InitiateNone w v out initiating good = inr (begins_at_once bound fit w v out initiating good)
good_start bound fit directive.InitiateCheck w v out initiating good =
    inl (checks directive.InitiateCheck w v out initiating good refl refl tt)
good_start bound fit directive.InitiateUnlock w v out initiating good =
    inl (checks directive.InitiateUnlock w v out initiating good refl refl tt)
good_start bound fit (directive.InitiateSetVr x) w v out initiating good =
    inl (checks (directive.InitiateSetVr x) w v out initiating good refl refl (sym initiating.begins.vs, tt))
good_start bound fit directive.Terminate w v out initiating good = absurd (false≢true initiating.initiation)
good_start bound fit (directive.SetVs x) w v out initiating good = absurd (false≢true initiating.initiation)
good_start bound fit (directive.SetK k) w v out initiating good = absurd (false≢true initiating.initiation)
good_start bound fit (directive.SetT1 t1) w v out initiating good = absurd (false≢true initiating.initiation)
good_start bound fit (directive.SetLimit limit) w v out initiating good = absurd (false≢true initiating.initiation)
