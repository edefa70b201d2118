-- The two fields of an insert: numbers, each spelled by a word of its own.
use Rattle.std.proofs.Common.{◌≡◌, ◌∙◌, ◌↔◌, inl, inr, ℕ, ℤ, pos, ◌+◌, ◌*◌, ◌<◌, ◌≤◌, ◌^◌, true, Option, Some, None, IfSome, IsSome, Result, Ok, List, [], ◌∷◌, ◌++◌, length, take, drop, set, map, get_or, slice_get, replicate, refl, sym, ap, subst, arith}
use Rattle.std.proofs.Math.Seq.{take-length}
use Rattle.std.proofs.lemmas.Bool.{and_parts}
use Rattle.std.proofs.lemmas.Fmt.{decimal_injective}
use Rattle.std.proofs.lemmas.List.{append_assoc, append-nil, length-append, length-take, length-set, length-map, map-append, take_more, take_more_set}
use Rattle.std.proofs.lemmas.List.Splits.{join_with_byte-slice_split}
use Rattle.std.proofs.lemmas.Option.{none-some, same_Some}
use Rattle.std.specs.Fmt.{decimal}
use Rattle.std.specs.Prelude.{⊤}
use Rattle.std.specs.List.{AllByRecursion, list_all, join_with_byte}
use Rattle.tc_types.specs.declared.requests.Command.{Command}
use Rattle.tc_types.specs.declared.requests.Command.TheVariants.{Plain, EnableSchedule, DisableSchedule, ResetSchedule, InsertActivities, DeleteActivity, ShiftActivity, ShiftAll, SummarizeAll}
use Rattle.tc_types.specs.declared.rides.Ride.{Ride}
use Rattle.tc_types.specs.Numbers.{IsNumber, IsMoment}
use Rattle.tc_types.specs.Grammar.{Reads, listed, IsRide, AreRides}
use Rattle.tc_types.specs.Inserts.{IsInsert}
use Rattle.tc_types.specs.Schedule.{ridden, released_at}
use Rattle.tc_types.proofs.Spellings.{targets_parted}
use Rattle.tc_types.proofs.WordLaws.{lacks, words_joined, words_nonempty}
use Rattle.tc_csv.specs.declared.faults.Rule.TheVariants as rule
use Rattle.tc_csv.specs.Faults.{FirstBroken}
use Rattle.tc_csv.specs.Rows.{IsOnly}
use Rattle.tc_csv.specs.declared.stack_texts.commands.CommandKind.TheVariants.{Insert}
use Rattle.tc_stack.specs.Stacks.{IsEarlier}
use Rattle.tc_csv.specs.StackTexts.{IsInstant, AreInstants, parts, IsTargetField, IsTimeField}
use Rattle.tc_csv.specs.CommandTexts.{IsCommandAt, SpellsRest, AreLines, AreAt, KeepsRest, rest_rules}

-- ---- words that spell numbers

-- words spell these numbers, in their order
abbrev pub AreSpelled : (ℕ → List ℕ → Type 0) → List ℕ → List (List ℕ) → Type 0
AreSpelled Spells [] [] = ⊤
AreSpelled Spells (n ∷ ns) (word ∷ words) = Spells n word × AreSpelled Spells ns words
AreSpelled Spells ns words = ⊥

-- no word spells two numbers
abbrev pub IsOnce : (ℕ → List ℕ → Type 0) → Type 0
IsOnce Spells = (m n : ℕ) (word : List ℕ) → Spells m word → Spells n word → m ≡ n

-- these numbers were read of the words of a field, and those words are left
pub record HasRead (Spells : ℕ → List ℕ → Type 0) (given left : List (List ℕ)) (numbers : List ℕ) : Type 0 where
  pub front : List (List ℕ)
  pub parted : given ≡ front ++ left
  pub spelled : AreSpelled Spells numbers front

-- others follow the numbers that were read
pub record GoesOn (Spells : ℕ → List ℕ → Type 0) (left : List (List ℕ)) (numbers all : List ℕ) : Type 0 where
  pub others : List ℕ
  pub are : all ≡ numbers ++ others
  pub spelled : AreSpelled Spells others left

spelled_more : (Spells : ℕ → List ℕ → Type 0) (ns : List ℕ) (ws : List (List ℕ)) (n : ℕ) (w : List ℕ) → AreSpelled Spells ns ws → Spells n w → AreSpelled Spells (ns ++ n ∷ []) (ws ++ w ∷ [])
spelled_more Spells [] [] n w are one = (one, tt)
spelled_more Spells [] (v ∷ ws) n w are one = absurd are
spelled_more Spells (m ∷ ns) [] n w are one = absurd are
spelled_more Spells (m ∷ ns) (v ∷ ws) n w are one = (are.0, spelled_more Spells ns ws n w are.1 one)

-- one more was read
pub read_more : (Spells : ℕ → List ℕ → Type 0) (given left : List (List ℕ)) (ns : List ℕ) (n : ℕ) (w : List ℕ) → HasRead Spells given (w ∷ left) ns → Spells n w → HasRead Spells given left (ns ++ n ∷ [])
read_more Spells given left ns n w has one = record {
  front = has.front ++ w ∷ [];
  parted = has.parted ∙ sym (append_assoc has.front (w ∷ []) left);
  spelled = spelled_more Spells ns has.front n w has.spelled one;
}

goes_on : (Spells : ℕ → List ℕ → Type 0) → IsOnce Spells → (ns : List ℕ) (front left : List (List ℕ)) (all : List ℕ) → AreSpelled Spells ns front → AreSpelled Spells all (front ++ left) → GoesOn Spells left ns all
goes_on Spells once [] [] left all are also = record { others = all; are = refl; spelled = also }
goes_on Spells once [] (w ∷ ws) left all are also = absurd are
goes_on Spells once (n ∷ ns) [] left all are also = absurd are
goes_on Spells once (n ∷ ns) (w ∷ ws) left [] are also = absurd also
goes_on Spells once (n ∷ ns) (w ∷ ws) left (m ∷ ms) are also =
    let first = once m n w also.0 are.0 in
    let rest = goes_on Spells once ns ws left ms are.1 also.1 in
    record { others = rest.others; are = λ i. first i ∷ rest.are i; spelled = rest.spelled }

-- what the words spell begins with what was read of them
begins : (Spells : ℕ → List ℕ → Type 0) → IsOnce Spells → (given left : List (List ℕ)) (ns all : List ℕ) → HasRead Spells given left ns → AreSpelled Spells all given → GoesOn Spells left ns all
begins Spells once given left ns all has are = goes_on Spells once ns has.front left all has.spelled (subst (AreSpelled Spells all) has.parted are)

-- it is what was read where no word is left,
pub all_read : (Spells : ℕ → List ℕ → Type 0) → IsOnce Spells → (given : List (List ℕ)) (ns all : List ℕ) → HasRead Spells given [] ns → AreSpelled Spells all given → ns ≡ all
all_read Spells once given ns all has are = none_left (begins Spells once given [] ns all has are)
  where
    none_left : GoesOn Spells [] ns all → ns ≡ all
    none_left rest = by_others rest.others rest.are rest.spelled
      where
        by_others : (others : List ℕ) → all ≡ ns ++ others → AreSpelled Spells others [] → ns ≡ all
        by_others [] is spelled = sym (is ∙ append-nil ns)
        by_others (n ∷ others) is spelled = absurd spelled

-- and more where one is left, which spells the next
pub more_spelled : (Spells : ℕ → List ℕ → Type 0) → IsOnce Spells → (given left : List (List ℕ)) (w : List ℕ) (ns all : List ℕ) → HasRead Spells given (w ∷ left) ns → AreSpelled Spells all given
    → (length ns < length all) × ((n : ℕ) × Spells n w)
more_spelled Spells once given left w ns all has are = by_rest (begins Spells once given (w ∷ left) ns all has are)
  where
    by_others : (others : List ℕ) → all ≡ ns ++ others → AreSpelled Spells others (w ∷ left) → (length ns < length all) × ((n : ℕ) × Spells n w)
    by_others [] is spelled = absurd spelled
    by_others (n ∷ others) is spelled =
        let grown : length all ≡ length ns + length (n ∷ others) = ap length is ∙ length-append ns (n ∷ others) in
        (omega (arith, grown), (n, spelled.0))

    by_rest : GoesOn Spells (w ∷ left) ns all → (length ns < length all) × ((n : ℕ) × Spells n w)
    by_rest rest = by_others rest.others rest.are rest.spelled

-- a field has a word, so that some number was read where none is left
some_read : (Spells : ℕ → List ℕ → Type 0) (field ns : List ℕ) → HasRead Spells (parts field) [] ns → 0 < length ns
some_read Spells field ns has = by_front ns has.front has.parted has.spelled
  where
    by_front : (ns : List ℕ) (front : List (List ℕ)) → parts field ≡ front ++ [] → AreSpelled Spells ns front → 0 < length ns
    by_front [] [] is spelled = absurd (words_nonempty 59 field is)
    by_front [] (w ∷ ws) is spelled = absurd spelled
    by_front (n ∷ ns) front is spelled = omega arith

-- ---- lines

-- this word names this line, which is before the insert's
abbrev pub IsLineWord : ℕ → ℕ → List ℕ → Type 0
IsLineWord line n word = IsEarlier line n × (word ≡ decimal n)

line_once : (line : ℕ) → line < 2 ^ 32 → IsOnce (IsLineWord line)
line_once line small m n word x y = decimal_injective m n (omega (arith, small, x.0)) (omega (arith, small, y.0)) (sym x.1 ∙ y.1)

lines_spelled : (line : ℕ) (lines : List ℕ) → AllByRecursion (IsEarlier line) lines → AreSpelled (IsLineWord line) lines (map decimal lines)
lines_spelled line [] are = tt
lines_spelled line (n ∷ ns) are = ((are.0, refl), lines_spelled line ns are.1)

lines_are : (line : ℕ) (lines : List ℕ) (ws : List (List ℕ)) → AreSpelled (IsLineWord line) lines ws → (ws ≡ map decimal lines) × AllByRecursion (IsEarlier line) lines
lines_are line [] [] are = (refl, tt)
lines_are line [] (w ∷ ws) are = absurd are
lines_are line (n ∷ ns) [] are = absurd are
lines_are line (n ∷ ns) (w ∷ ws) are =
    let rest = lines_are line ns ws are.1 in
    (λ i. are.0.1 i ∷ rest.0 i, (are.0.0, rest.1))

-- no number has a semicolon
number_parted : (n : ℕ) → IsNumber n → lacks 59 (decimal n) ≡ true
number_parted n small = (and_parts _ _ (targets_parted (record { target = n; time = 0 } ∷ []) ((small, omega arith), tt))).0

numbers_parted : (numbers : List ℕ) → AllByRecursion IsNumber numbers → list_all (lacks 59) (map decimal numbers) ≡ true
numbers_parted [] are = refl
numbers_parted (n ∷ ns) are = rw (number_parted n are.0, numbers_parted ns are.1) refl

-- so the parts of a list of numbers are their texts
pub listed_parts : (numbers : List ℕ) → 0 < length numbers → AllByRecursion IsNumber numbers → parts (listed decimal numbers) ≡ map decimal numbers
listed_parts numbers some are = words_joined 59 (map decimal numbers) (numbers_parted numbers are) (subst (λ n. 0 < n) (sym (length-map numbers decimal)) some)

line_numbers : (line : ℕ) → line < 2 ^ 32 → (lines : List ℕ) → AllByRecursion (IsEarlier line) lines → AllByRecursion IsNumber lines
line_numbers line small [] are = tt
line_numbers line small (n ∷ ns) are = (omega (arith, small, are.0), line_numbers line small ns are.1)

line_parts : (line : ℕ) → line < 2 ^ 32 → (lines : List ℕ) → AreLines line lines → parts (listed decimal lines) ≡ map decimal lines
line_parts line small lines are = listed_parts lines are.0.some (line_numbers line small lines are.1)

-- So many lines were read of a field, and these words are left.
pub record LinesRead (line : ℕ) (field : List ℕ) (left : List (List ℕ)) (count : ℕ) (places : List ℕ) : Type 0 where
  pub few : count ≤ 8
  pub eight : length places ≡ 8
  pub read : HasRead (IsLineWord line) (parts field) left (take count places)

-- at first none
pub no_lines : (line : ℕ) (field places : List ℕ) → length places ≡ 8 → LinesRead line field (parts field) 0 places
no_lines line field places eight = record { few = omega arith; eight = eight; read = record { front = []; parted = refl; spelled = tt } }

-- one more
pub lines_more : (line : ℕ) (field : List ℕ) (left : List (List ℕ)) (count : ℕ) (places w : List ℕ) (n : ℕ) → LinesRead line field (w ∷ left) count places → count < 8 → Reads decimal (IsEarlier line) w (Some n)
    → LinesRead line field left (count + 1) (set places count n)
lines_more line field left count places w n has below reads = record {
  few = omega arith;
  eight = length-set places count n ∙ has.eight;
  read = subst (HasRead (IsLineWord line) (parts field) left) (sym (take_more_set places count n (rw has.eight below)))
      (read_more (IsLineWord line) (parts field) left (take count places) n w has.read (reads.found.1, reads.found.0));
}

-- the words of a field spell no such list
no_list : (line : ℕ) → line < 2 ^ 32 → (field : List ℕ) → ((lines : List ℕ) → AreLines line lines → AreSpelled (IsLineWord line) lines (parts field) → ⊥) → Reads (λ lines. listed decimal lines) (AreLines line) field None
no_list line small field none = record {
  found = tt;
  only = λ lines are is. absurd (none lines are (subst (AreSpelled (IsLineWord line) lines) (sym (ap parts is ∙ line_parts line small lines are)) (lines_spelled line lines are.1)));
}

-- where a word is left behind eight lines
pub too_many : (line : ℕ) → line < 2 ^ 32 → (field : List ℕ) (left : List (List ℕ)) (places : List ℕ) → LinesRead line field left 8 places → (left ≡ [] → ⊥) → Reads (λ lines. listed decimal lines) (AreLines line) field None
too_many line small field [] places has some = absurd (some refl)
too_many line small field (w ∷ left) places has some =
    let eight : length (take 8 places) ≡ 8 = omega (arith, length-take 8 places, has.eight) in
    no_list line small field (λ lines are spelled. omega (arith, eight, are.0.few, (more_spelled (IsLineWord line) (line_once line small) (parts field) left w (take 8 places) lines has.read spelled).0))

-- where a word is no earlier line
pub no_line : (line : ℕ) → line < 2 ^ 32 → (field : List ℕ) (left : List (List ℕ)) (count : ℕ) (places w : List ℕ) → LinesRead line field (w ∷ left) count places → Reads decimal (IsEarlier line) w None
    → Reads (λ lines. listed decimal lines) (AreLines line) field None
no_line line small field left count places w has reads =
    no_list line small field (λ lines are spelled.
    let next = (more_spelled (IsLineWord line) (line_once line small) (parts field) left w (take count places) lines has.read spelled).1 in
    none-some next.0 (reads.only next.0 next.1.0 next.1.1))

-- where no word is left
pub lines_read : (line : ℕ) → line < 2 ^ 32 → (field : List ℕ) (count : ℕ) (places : List ℕ) (given : Option (List ℕ)) → LinesRead line field [] count places
    → (IsSome given ↔ (length (take count places) ≤ 8)) → IfSome given (λ lines. lines ≡ take count places) → Reads (λ lines. listed decimal lines) (AreLines line) field given
lines_read line small field count places None has some is =
    let none : IsSome {T = List ℕ} None = some.1 (omega (arith, has.few, length-take count places)) in
    cc
lines_read line small field count places (Some lines) has some is = subst (λ read. Reads (λ lines. listed decimal lines) (AreLines line) field (Some read)) (sym is) whole
  where
    whole : Reads (λ lines. listed decimal lines) (AreLines line) field (Some (take count places))
    whole =
        let are = lines_are line (take count places) has.read.front has.read.spelled in
        record {
          found = (
            sym (join_with_byte-slice_split 59 field) ∙ ap (join_with_byte 59) (has.read.parted ∙ append-nil has.read.front ∙ are.0),
            (record { some = some_read (IsLineWord line) field (take count places) has.read; few = omega (arith, has.few, length-take count places) }, are.1),
          );
          only = λ lines so is. ap Some (all_read (IsLineWord line) (line_once line small) (parts field) (take count places) lines has.read
              (subst (AreSpelled (IsLineWord line) lines) (sym (ap parts is ∙ line_parts line small lines so)) (lines_spelled line lines so.1)));
        }

-- ---- instants

-- this word is the instant of this moment
abbrev pub IsTimeWord : ℕ → List ℕ → Type 0
IsTimeWord time word = IsMoment time × IsInstant time word

time_once : IsOnce IsTimeWord
time_once m n word x y = same_moment m n (sym x.1.1 ∙ y.1.1)
  where
    same_moment : {E : Type 0} (m n : ℕ) → ◌≡◌ {A = Result ℤ E} (Ok (pos (m * 1000000000))) (Ok (pos (n * 1000000000))) → m ≡ n
    same_moment m n same =
        let e : m * 1000000000 ≡ n * 1000000000 = cc in
        omega (arith, e)

times_spelled : (times : List ℕ) (ws : List (List ℕ)) → AllByRecursion IsMoment times → AreInstants times ws → AreSpelled IsTimeWord times ws
times_spelled [] [] range are = tt
times_spelled [] (w ∷ ws) range are = absurd are
times_spelled (t ∷ ts) [] range are = absurd are
times_spelled (t ∷ ts) (w ∷ ws) range are = ((range.0, are.0), times_spelled ts ws range.1 are.1)

times_are : (times : List ℕ) (ws : List (List ℕ)) → AreSpelled IsTimeWord times ws → AllByRecursion IsMoment times × AreInstants times ws
times_are [] [] are = (tt, tt)
times_are [] (w ∷ ws) are = absurd are
times_are (t ∷ ts) [] are = absurd are
times_are (t ∷ ts) (w ∷ ws) are =
    let rest = times_are ts ws are.1 in
    ((are.0.0, rest.0), (are.0.1, rest.1))

-- ---- lines, each with an instant

-- So many activities were read of a field, and these words are left.
pub record RidesRead (named field : List ℕ) (left : List (List ℕ)) (count : ℕ) (places : List Ride) : Type 0 where
  pub few : count ≤ 8
  pub behind : count ≤ length named
  pub eight : length places ≡ 8
  pub lines : map ridden (take count places) ≡ take count named
  pub read : HasRead IsTimeWord (parts field) left (map released_at (take count places))

spelled_of : (named field : List ℕ) (rides : List Ride) → AreAt named field rides → AreSpelled IsTimeWord (map released_at rides) (parts field)
spelled_of named field rides are = times_spelled (map released_at rides) (parts field) are.range are.instants

as_many : (named field : List ℕ) (rides : List Ride) → AreAt named field rides → length (map released_at rides) ≡ length named
as_many named field rides are = length-map rides released_at ∙ sym (length-map rides ridden) ∙ ap length are.lines

-- the first
pub first_ride : (named field : List ℕ) (left : List (List ℕ)) (w : List ℕ) (target time : ℕ) → Some target ≡ slice_get named 0 → parts field ≡ w ∷ left → IsTimeWord time w
    → RidesRead named field left 1 (replicate 8 (record { target = target; time = time }))
first_ride [] field left w target time first is one = absurd (none-some target (sym first))
first_ride (line ∷ named) field left w target time first is one = record {
  few = omega arith;
  behind = omega arith;
  eight = refl;
  lines = ap (λ l. l ∷ []) (same_Some target line first);
  read = record { front = w ∷ []; parted = is; spelled = (one, tt) };
}

-- one more
pub rides_more : (named field : List ℕ) (left : List (List ℕ)) (count : ℕ) (places : List Ride) (w : List ℕ) (time : ℕ) → RidesRead named field (w ∷ left) count places → count < length named → length named ≤ 8
    → IsTimeWord time w → RidesRead named field left (count + 1) (set places count (record { target = get_or named count 0; time = time }))
rides_more named field left count places w time has below few one = record {
  few = omega (arith, below, few);
  behind = omega (arith, below);
  eight = length-set places count next ∙ has.eight;
  lines = ap (map ridden) grown ∙ map-append ridden (take count places) (next ∷ []) ∙ ap (λ l. l ++ get_or named count 0 ∷ []) has.lines ∙ sym (take_more named count 0 below);
  read = subst (HasRead IsTimeWord (parts field) left) (sym (ap (map released_at) grown ∙ map-append released_at (take count places) (next ∷ [])))
      (read_more IsTimeWord (parts field) left (map released_at (take count places)) time w has.read one);
}
  where
    next : Ride
    next = record { target = get_or named count 0; time = time }

    grown : take (count + 1) (set places count next) ≡ take count places ++ next ∷ []
    grown = take_more_set places count next (omega (arith, has.eight, below, few))

-- There are none of these lines where a word is no instant,
pub no_instant : (named field : List ℕ) (left : List (List ℕ)) (w : List ℕ) (times : List ℕ) → HasRead IsTimeWord (parts field) (w ∷ left) times
    → ((time : ℕ) → IsMoment time → IsInstant time w → None ≡ Some time) → (rides : List Ride) → AreAt named field rides → ⊥
no_instant named field left w times has none rides are =
    let next = (more_spelled IsTimeWord time_once (parts field) left w times (map released_at rides) has (spelled_of named field rides are)).1 in
    none-some next.0 (none next.0 next.1.0 next.1.1)

-- or no word is left for a line,
pub no_more : (named field : List ℕ) (count : ℕ) (places : List Ride) → RidesRead named field [] count places → count < length named → (rides : List Ride) → AreAt named field rides → ⊥
no_more named field count places has below rides are =
    let all = ap length (all_read IsTimeWord time_once (parts field) (map released_at (take count places)) (map released_at rides) has.read (spelled_of named field rides are)) in
    omega (arith, all, as_many named field rides are, length-map (take count places) released_at, length-take count places, below)

-- or one is left behind all lines
pub one_more : (named field : List ℕ) (left : List (List ℕ)) (count : ℕ) (places : List Ride) → RidesRead named field left count places → length named ≤ count → length named ≤ 8 → (left ≡ [] → ⊥) → (rides : List Ride)
    → AreAt named field rides → ⊥
one_more named field [] count places has all few some rides are = some refl
one_more named field (w ∷ left) count places has all few some rides are =
    let more = (more_spelled IsTimeWord time_once (parts field) left w (map released_at (take count places)) (map released_at rides) has.read (spelled_of named field rides are)).0 in
    omega (arith, more, as_many named field rides are, length-map (take count places) released_at, length-take count places, has.eight, all, few)

rides_same : (a b : List Ride) → map ridden a ≡ map ridden b → map released_at a ≡ map released_at b → a ≡ b
rides_same [] [] lines times = refl
rides_same [] (b ∷ bs) lines times = absurd (omega (arith, ap length lines))
rides_same (a ∷ as_) [] lines times = absurd (omega (arith, ap length lines))
rides_same (a ∷ rest) (b ∷ bs) lines times =
    let others = rides_same rest bs (ap (drop 1) lines) (ap (drop 1) times) in
    let line = ap (λ l. get_or l 0 0) lines in
    let time = ap (λ l. get_or l 0 0) times in
    λ i. record { target = line i; time = time i } ∷ others i

-- where no word is left behind all lines, what was read is the one list of them
rides_read : (named field : List ℕ) (count : ℕ) (places : List Ride) → RidesRead named field [] count places → length named ≤ count
    → AreAt named field (take count places) × ((rides : List Ride) → AreAt named field rides → take count places ≡ rides)
rides_read named field count places has all =
    let count_is : length named ≡ count = omega (arith, has.behind, all) in
    let whole : take count named ≡ named = rw (← count_is) (take-length named) in
    let spelled = times_are (map released_at (take count places)) has.read.front has.read.spelled in
    let front : has.read.front ≡ parts field = sym (has.read.parted ∙ append-nil has.read.front) in (
      record { lines = has.lines ∙ whole; range = spelled.0; instants = subst (AreInstants (map released_at (take count places))) front spelled.1 },
      λ rides are. rides_same (take count places) rides (has.lines ∙ whole ∙ sym are.lines)
          (all_read IsTimeWord time_once (parts field) (map released_at (take count places)) (map released_at rides) has.read (spelled_of named field rides are)),
    )

pub rides_found : (named field : List ℕ) (count : ℕ) (places : List Ride) (given : Option (List Ride)) → RidesRead named field [] count places → length named ≤ count
    → IfSome given (λ rides. rides ≡ take count places) → IfSome given (AreAt named field)
rides_found named field count places None has all is = tt
rides_found named field count places (Some rides) has all is = subst (AreAt named field) (sym is) (rides_read named field count places has all).0

pub rides_only : (named field : List ℕ) (count : ℕ) (places : List Ride) (given : Option (List Ride)) → RidesRead named field [] count places → length named ≤ count → IsInsert named
    → (IsSome given ↔ IsInsert (take count places)) → IfSome given (λ rides. rides ≡ take count places) → (rides : List Ride) → AreAt named field rides → given ≡ Some rides
rides_only named field count places None has all insert some is rides are =
    let count_is : length (take count places) ≡ length named = sym (length-map (take count places) ridden) ∙ ap length (rides_read named field count places has all).0.lines in
    let none : IsSome {T = List Ride} None = some.1 (record { some = omega (arith, count_is, insert.some); few = omega (arith, count_is, insert.few) }) in
    cc
rides_only named field count places (Some given) has all insert some is rides are = ap Some (is ∙ (rides_read named field count places has all).1 rides are)

-- ---- the insert

-- an insert names as many lines as it has activities, and each is a number
pub as_insert : (rides : List Ride) → AreRides rides → IsInsert (map ridden rides)
as_insert rides are = record { some = rw (length-map rides ridden) are.0.some; few = rw (length-map rides ridden) are.0.few }

ride_numbers : (rides : List Ride) → AllByRecursion IsRide rides → AllByRecursion IsNumber (map ridden rides)
ride_numbers [] are = tt
ride_numbers (r ∷ rides) are = (are.0.0, ride_numbers rides are.1)

ride_times : (rides : List Ride) → AllByRecursion IsRide rides → AllByRecursion IsMoment (map released_at rides)
ride_times [] are = tt
ride_times (r ∷ rides) are = (are.0.1, ride_times rides are.1)

-- fields that spell an insert keep the rule of its target,
pub insert_target : (line : ℕ) (target : List ℕ) (rides : List Ride) → AreRides rides → AllByRecursion (IsEarlier line) (map ridden rides) → target ≡ listed decimal (map ridden rides) → IsTargetField line Insert target
insert_target line target rides are earlier is = (map ridden rides, (as_insert rides are, earlier), is)

-- and that of its time
pub insert_time : (target time : List ℕ) (rides : List Ride) → AreRides rides → target ≡ listed decimal (map ridden rides) → AreInstants (map released_at rides) (parts time) → IsTimeField Insert target time
insert_time target time rides are is instants = (map released_at rides, as_many, ride_times rides are.1, instants)
  where
    as_many : length (map released_at rides) ≡ length (parts target)
    as_many =
        let some = (as_insert rides are).some in
        let there : length (parts target) ≡ length (map decimal (map ridden rides)) = ap (λ t. length (parts t)) is ∙ ap length (listed_parts (map ridden rides) some (ride_numbers rides are.1)) in
        omega (arith, there, length-map rides released_at, length-map rides ridden, length-map (map ridden rides) decimal)

-- what was read of two fields is the one insert that they spell
pub insert_only : (line : ℕ) (target time lines : List ℕ) (rides : List Ride) → Reads (λ lines. listed decimal lines) (AreLines line) target (Some lines) → AreAt lines time rides
    → ((others : List Ride) → AreAt lines time others → Some rides ≡ Some others) → AreRides rides → IsOnly (λ c. SpellsRest Insert target time c × IsCommandAt line c) (InsertActivities rides)
insert_only line target time lines rides reads at only are = (
  ((refl, reads.found.0 ∙ ap (listed decimal) (sym at.lines), at.instants), (are, subst (AllByRecursion (IsEarlier line)) (sym at.lines) reads.found.1.1)),
  same,
)
  where
    same : (other : Command) → SpellsRest Insert target time other × IsCommandAt line other → InsertActivities rides ≡ other
    same (Plain service subtype) so = cc
    same EnableSchedule so = cc
    same DisableSchedule so = cc
    same ResetSchedule so = cc
    same (InsertActivities others) so =
        let lines_same : lines ≡ map ridden others = same_Some lines (map ridden others) (reads.only (map ridden others) (as_insert others so.1.0, so.1.1) so.0.1) in
        ap InsertActivities (same_Some rides others (only others (record { lines = sym lines_same; range = ride_times others so.1.0.1; instants = so.0.2 })))
    same (DeleteActivity other) so = cc
    same (ShiftActivity other offset) so = cc
    same (ShiftAll offset) so = cc
    same SummarizeAll so = cc

-- the target is wrong where no lines are read,
pub insert_no_target : (line : ℕ) (target time : List ℕ) → Reads (λ lines. listed decimal lines) (AreLines line) target None → FirstBroken (KeepsRest line Insert target time) rest_rules rule.Target
insert_no_target line target time reads = inl (λ is. none-some is.0 (reads.only is.0 is.1 is.2), refl)

-- activities of these lines, at these times
ridden_at : (lines times : List ℕ) → length times ≡ length lines → (rides : List Ride) × (map ridden rides ≡ lines) × (map released_at rides ≡ times)
ridden_at [] [] many = ([], refl, refl)
ridden_at [] (t ∷ ts) many = absurd (omega (arith, many))
ridden_at (n ∷ ns) [] many = absurd (omega (arith, many))
ridden_at (n ∷ ns) (t ∷ ts) many =
    let rest = ridden_at ns ts (omega (arith, many)) in
    (record { target = n; time = t } ∷ rest.0, ap (λ l. n ∷ l) rest.1, ap (λ l. t ∷ l) rest.2)

-- and the time where they are, and no instants
pub insert_no_time : (line : ℕ) → line < 2 ^ 32 → (target time lines : List ℕ) → Reads (λ lines. listed decimal lines) (AreLines line) target (Some lines) → ((rides : List Ride) → AreAt lines time rides → None ≡ Some rides)
    → FirstBroken (KeepsRest line Insert target time) rest_rules rule.Time
insert_no_time line small target time lines reads none = inr ((lines, reads.found.1, reads.found.0), inl (by_times, refl))
  where
    many : length (parts target) ≡ length lines
    many = ap (λ t. length (parts t)) reads.found.0 ∙ ap length (line_parts line small lines reads.found.1) ∙ length-map lines decimal

    by_times : IsTimeField Insert target time → ⊥
    by_times (times, as_many, range, instants) =
        let rides = ridden_at lines times (as_many ∙ many) in
        none-some rides.0 (none rides.0 (record {
          lines = rides.1;
          range = subst (AllByRecursion IsMoment) (sym rides.2) range;
          instants = subst (λ (ts : List ℕ). AreInstants ts (parts time)) (sym rides.2) instants;
        }))
