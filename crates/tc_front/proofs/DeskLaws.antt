-- The desk's router finds what a path says.
use Rattle.std.proofs.Common.{◌≡◌, ◌⊎◌, inl, inr, ⊎_elim, ℕ, ◌<◌, ◌==◌, true, false, Option, Some, None, List, [], ◌∷◌, ◌++◌, codes, length, get_or, IsUtf8, ltb, refl, ap, ap₂, sym, subst, ◌∙◌, arith}
use Rattle.std.proofs.lemmas.Bool.{false≢true, eqb-true, ne_eqb, ltb-true, lt-ltb, and_parts, or_from, false_from_ne_true}
use Rattle.matchit.specs.Rows.{param_token}
use Rattle.matchit.specs.Seek.{seek, first, has_slash, slash}
use Rattle.matchit.specs.Level.{IsText}
use Rattle.matchit.specs.Params.{walk, part_of, AllText}
use Rattle.matchit.specs.Router.{RouteOf}
use Rattle.tc_types.specs.Words.{words}
use Rattle.tc_front.specs.declared.routes.RouteKind.{RouteKind}
use Rattle.tc_front.specs.declared.routes.RouteKind.TheVariants as kind
use Rattle.tc_front.specs.Paths.{Named, same, is_filled, two_texts, path_of, one_text, procedures, request as request_named, history as history_named, report as report_named, urgent as urgent_named, moves as moves_named, procedure as procedure_named}
use Rattle.tc_front.specs.Routes.{KindRoutes, desk_routes, named_at, first_text, second_text}
use Rattle.tc_front.proofs.SeekLaws.{steps, is_plain, no_rows, text_steps, fits, any_fits, unfit, one_param, two_params, last_param, no_second, first_param, no_first}
use Rattle.tc_front.proofs.PathLaws.{Whole, Parted, parted, has_slash-parted, IsNoLast, some_word, same_refl, is_word, goes_on, one_no_last, one_last, same_either, filled_is}
use Rattle.tc_front.proofs.WalkLaws.{is_ascii, one_walk, two_walk}
use Rattle.tc_front.proofs.TextLaws.{bytes_text, ascii_text, text_parts, bytes_behind}
use Rattle.tc_front.proofs.RouteLaws.{history, moves, procedure, report, request, urgent, rows, desk_rows}

abbrev pub pairs_of : RouteOf RouteKind → List ℕ → List (List ℕ × List ℕ)
pairs_of route path = walk route.pattern route.text path route.names 0 0

abbrev named_by_pairs : RouteKind → List (List ℕ × List ℕ) → Named
named_by_pairs kind pairs = named_at kind (first_text pairs) (second_text pairs)

-- what was found for a path is what the path says, and its texts are texts
abbrev pub IsRouted : List ℕ → Option (RouteOf RouteKind) → Type 0
IsRouted path None = path_of path ≡ None
IsRouted path (Some route) = AllText (pairs_of route path) × (path_of path ≡ Some (named_by_pairs route.value (pairs_of route path)))

routed : (path : List ℕ) (route : RouteOf RouteKind) (pairs : List (List ℕ × List ℕ)) → pairs_of route path ≡ pairs → AllText pairs → path_of path ≡ Some (named_by_pairs route.value pairs) → IsRouted path (Some route)
routed path route pairs is text said = (subst AllText (sym is) text, said ∙ ap (λ l. Some (named_by_pairs route.value l)) (sym is))

abbrev Finds : List ℕ → Type 0
Finds path = IsRouted path (seek 0 rows path)

-- ---- paths with no text

-- where no route goes on
no_more : (text path : List ℕ) → is_plain text rows ≡ true → steps text rows ≡ [] → path_of (text ++ path) ≡ None → Finds (text ++ path)
no_more text path plain none said = subst (IsRouted (text ++ path)) (sym (text_steps text path rows plain ∙ ap (λ r. seek 0 r path) none ∙ no_rows 0 path)) said

acts_alone : Finds (codes "/acts")
unfolding seek
acts_alone = subst (IsRouted (codes "/acts")) (sym (text_steps (codes "/acts") [] rows refl)) (tt, refl)

acts_more : (path : List ℕ) → Finds (codes "/acts/" ++ path)
acts_more path = no_more (codes "/acts/") path refl refl (goes_on _ path)

stacks_alone : Finds (codes "/stacks")
unfolding seek
stacks_alone = subst (IsRouted (codes "/stacks")) (sym (text_steps (codes "/stacks") [] rows refl)) (tt, refl)

stacks_more : (path : List ℕ) → Finds (codes "/stacks/" ++ path)
stacks_more path = no_more (codes "/stacks/") path refl refl (goes_on _ path)

procedures_alone : Finds (codes "/procedures")
unfolding seek
procedures_alone = subst (IsRouted (codes "/procedures")) (sym (text_steps (codes "/procedures") [] rows refl)) (tt, refl)

places_alone : Finds (codes "/places")
unfolding seek
places_alone = subst (IsRouted (codes "/places")) (sym (text_steps (codes "/places") [] rows refl)) (tt, refl)

places_more : (path : List ℕ) → Finds (codes "/places/" ++ path)
places_more path = no_more (codes "/places/") path refl refl (goes_on _ path)

waiting_alone : Finds (codes "/waiting")
unfolding seek
waiting_alone = subst (IsRouted (codes "/waiting")) (sym (text_steps (codes "/waiting") [] rows refl)) (tt, refl)

waiting_more : (path : List ℕ) → Finds (codes "/waiting/" ++ path)
waiting_more path = no_more (codes "/waiting/") path refl refl (goes_on _ path)

wall_alone : Finds (codes "/board")
unfolding seek
wall_alone = subst (IsRouted (codes "/board")) (sym (text_steps (codes "/board") [] rows refl)) (tt, refl)

opening_alone : Finds (codes "/opening")
unfolding seek
opening_alone = subst (IsRouted (codes "/opening")) (sym (text_steps (codes "/opening") [] rows refl)) (tt, refl)

opening_more : (path : List ℕ) → Finds (codes "/opening/" ++ path)
opening_more path = no_more (codes "/opening/") path refl refl (goes_on _ path)

wall_more : (path : List ℕ) → Finds (codes "/board/" ++ path)
wall_more path = no_more (codes "/board/") path refl refl (goes_on _ path)

urgent_alone : Finds (codes "/urgent")
unfolding seek
urgent_alone = subst (IsRouted (codes "/urgent")) (sym (text_steps (codes "/urgent") [] rows refl)) refl

moves_alone : Finds (codes "/moves")
unfolding seek
moves_alone = subst (IsRouted (codes "/moves")) (sym (text_steps (codes "/moves") [] rows refl)) refl

request_alone : Finds (codes "/requests")
unfolding seek
request_alone = subst (IsRouted (codes "/requests")) (sym (text_steps (codes "/requests") [] rows refl)) refl

history_alone : Finds (codes "/history")
unfolding seek
history_alone = subst (IsRouted (codes "/history")) (sym (text_steps (codes "/history") [] rows refl)) refl

report_alone : Finds (codes "/report")
unfolding seek
report_alone = subst (IsRouted (codes "/report")) (sym (text_steps (codes "/report") [] rows refl)) refl

-- ---- the last text of a path

-- the last parameter takes all, where the words are one that is not empty; else it takes nothing
abbrev Last : RouteOf RouteKind → List ℕ → Type 0
Last route path =
    ((seek 0 (one_param route) path ≡ Some route) × (words 47 path ≡ path ∷ []) × (is_filled path ≡ true))
    ⊎ ((seek 0 (one_param route) path ≡ None) × IsNoLast (words 47 path))

last_text : (route : RouteOf RouteKind) (path : List ℕ) → IsText path → Last route path
unfolding seek
last_text route [] small = inr (refl, record { first = []; rest = []; is = refl; why = inl refl })
last_text route (b ∷ path) small = by (parted (b ∷ path))
  where
    by : Whole (b ∷ path) ⊎ Parted (b ∷ path) → Last route (b ∷ path)
    by (inl w) = inl (last_param route b path small.0 ∙ rw w.plain refl, w.cut, filled_is b path)
    by (inr p) =
        let cut : has_slash (b ∷ path) ≡ true = ap has_slash p.is ∙ has_slash-parted p.word p.rest in
        inr (last_param route b path small.0 ∙ rw cut refl, record { first = p.word; rest = words 47 p.rest; is = p.cut; why = inr (some_word p.rest) })

-- ---- paths with one text

-- a route of one parameter behind a text of bytes
module _ (text written : List ℕ) (name : ℕ × ℕ) (kind : RouteKind) (named : List ℕ → Named) where
  abbrev one_route : RouteOf RouteKind
  one_route = record { pattern = text ++ param_token ∷ []; text = written; names = name ∷ []; value = kind }

  record IsOne : Type 0 where
    pub ascii : is_ascii text ≡ true
    pub plain : is_plain text rows ≡ true
    pub left : steps text rows ≡ one_param one_route
    pub said : (path : List ℕ) → path_of (text ++ path) ≡ one_text named (words 47 path)
    pub at : (first second : List ℕ) → named_at kind first second ≡ named first
    pub names : IsUtf8 (part_of written name.0 name.1)

  one_more : IsOne → (path : List ℕ) → IsText path → IsUtf8 path → Finds (text ++ path)
  one_more one path small whole = subst (IsRouted (text ++ path)) (sym (text_steps text path rows one.plain ∙ ap (λ r. seek 0 r path) one.left)) (by (last_text one_route path small))
    where
      by : Last one_route path → IsRouted (text ++ path) (seek 0 (one_param one_route) path)
      by (inl h) =
          subst (IsRouted (text ++ path)) (sym h.0)
          (routed (text ++ path) one_route _ (one_walk text written path name one.ascii) (one.names, whole, tt) (one.said path ∙ one_last named path h.1 h.2 ∙ ap Some (sym (one.at path []))))
      by (inr h) = subst (IsRouted (text ++ path)) (sym h.0) (one.said path ∙ one_no_last named path h.1)

request_more : (path : List ℕ) → IsText path → IsUtf8 path → Finds (codes "/requests/" ++ path)
request_more path small whole =
    one_more (codes "/requests/") request.text (11, 17) kind.Request request_named
    (record { ascii = refl; plain = refl; left = refl; said = λ path. refl; at = λ first second. refl; names = ascii_text (codes "number") refl })
    path small whole

urgent_more : (path : List ℕ) → IsText path → IsUtf8 path → Finds (codes "/urgent/" ++ path)
urgent_more path small whole =
    one_more (codes "/urgent/") urgent.text (9, 13) kind.Urgent urgent_named
    (record { ascii = refl; plain = refl; left = refl; said = λ path. refl; at = λ first second. refl; names = ascii_text (codes "from") refl })
    path small whole

moves_more : (path : List ℕ) → IsText path → IsUtf8 path → Finds (codes "/moves/" ++ path)
moves_more path small whole =
    one_more (codes "/moves/") moves.text (8, 13) kind.Moves moves_named
    (record { ascii = refl; plain = refl; left = refl; said = λ path. refl; at = λ first second. refl; names = ascii_text (codes "after") refl })
    path small whole

-- behind /procedures/ a text is asked for
one_procedure : (path : List ℕ) → procedures (words 47 path) ≡ one_text procedure_named (words 47 path)
one_procedure path = rw (some_word path).2 refl

procedure_more : (path : List ℕ) → IsText path → IsUtf8 path → Finds (codes "/procedures/" ++ path)
procedure_more path small whole =
    one_more (codes "/procedures/") procedure.text (13, 17) kind.Procedure procedure_named
    (record { ascii = refl; plain = refl; left = refl; said = one_procedure; at = λ first second. refl; names = ascii_text (codes "name") refl })
    path small whole

-- ---- paths with two texts

-- a route of two parameters behind a text of bytes
module _ (text written : List ℕ) (name other : ℕ × ℕ) (kind : RouteKind) (named : List ℕ → List ℕ → Named) where
  abbrev two_route : RouteOf RouteKind
  two_route = record { pattern = text ++ param_token ∷ slash ∷ param_token ∷ []; text = written; names = name ∷ other ∷ []; value = kind }

  record IsTwo : Type 0 where
    pub ascii : is_ascii text ≡ true
    pub short : length text < 100
    pub plain : is_plain text rows ≡ true
    pub left : steps text rows ≡ two_params two_route
    pub said : (path : List ℕ) → path_of (text ++ path) ≡ two_texts named (words 47 path)
    pub at : (first second : List ℕ) → named_at kind first second ≡ named first second
    pub names : IsUtf8 (part_of written name.0 name.1) × IsUtf8 (part_of written other.0 other.1)

  module _ (two : IsTwo) where
    nothing : (path : List ℕ) → seek 0 (two_params two_route) path ≡ None → two_texts named (words 47 path) ≡ None → IsRouted (text ++ path) (seek 0 (two_params two_route) path)
    nothing path none said = subst (IsRouted (text ++ path)) (sym none) (two.said path ∙ said)

    -- behind the first text and its slash
    behind_first : (b : ℕ) (part path : List ℕ) → b < 256 → has_slash (b ∷ part) ≡ false → words 47 (b ∷ part ++ slash ∷ path) ≡ (b ∷ part) ∷ words 47 path → IsUtf8 (b ∷ part) → IsUtf8 path
        → Last two_route path → IsRouted (text ++ (b ∷ part ++ slash ∷ path)) (seek 0 (two_params two_route) (b ∷ part ++ slash ∷ path))
    behind_first b part path small e cut front rest (inl h) =
        subst (IsRouted (text ++ (b ∷ part ++ slash ∷ path))) (sym (first_param two_route b part path small e ∙ h.0))
        (routed (text ++ (b ∷ part ++ slash ∷ path)) two_route _ (two_walk text written (b ∷ part) path name other two.ascii two.short e) (two.names.0, front, (two.names.1, rest, tt))
        (two.said (b ∷ part ++ slash ∷ path) ∙ rw cut (rw (filled_is b part) (one_last (named (b ∷ part)) path h.1 h.2)) ∙ ap Some (sym (two.at (b ∷ part) path))))
    behind_first b part path small e cut front rest (inr h) =
        subst (IsRouted (text ++ (b ∷ part ++ slash ∷ path))) (sym (first_param two_route b part path small e ∙ h.0))
        (two.said (b ∷ part ++ slash ∷ path) ∙ rw cut (rw (filled_is b part) (one_no_last (named (b ∷ part)) path h.1)))

    cut_at : (word rest path : List ℕ) → path ≡ word ++ slash ∷ rest → words 47 path ≡ word ∷ words 47 rest → has_slash word ≡ false → IsText path → IsUtf8 path
        → IsRouted (text ++ path) (seek 0 (two_params two_route) path)
    cut_at [] rest path is cut e small whole = nothing path (ap (seek 0 (two_params two_route)) is ∙ no_first two_route rest) (rw cut refl)
    cut_at (b ∷ part) rest path is cut e small whole =
        let bytes : IsText (b ∷ part ++ slash ∷ rest) = subst IsText is small in
        let parts : IsUtf8 (b ∷ part) × IsUtf8 rest = text_parts (b ∷ part) rest (subst IsUtf8 is whole) in
        subst (λ l. IsRouted (text ++ l) (seek 0 (two_params two_route) l)) (sym is)
        (behind_first b part rest bytes.0 e (ap (words 47) (sym is) ∙ cut) parts.0 parts.1 (last_text two_route rest (bytes_behind part (slash ∷ rest) bytes.1).1))

    two_more : (path : List ℕ) → IsText path → IsUtf8 path → Finds (text ++ path)
    two_more path small whole = subst (IsRouted (text ++ path)) (sym (text_steps text path rows two.plain ∙ ap (λ r. seek 0 r path) two.left)) (by (parted path))
      where
        by : Whole path ⊎ Parted path → IsRouted (text ++ path) (seek 0 (two_params two_route) path)
        by (inl w) = nothing path (no_second two_route path (λ b rest e. (subst IsText e small).0) w.plain) (rw w.cut (same_either (is_filled path) None None None refl refl))
        by (inr p) = cut_at p.word p.rest path p.is p.cut p.plain small whole

history_more : (path : List ℕ) → IsText path → IsUtf8 path → Finds (codes "/history/" ++ path)
history_more path small whole =
    two_more (codes "/history/") history.text (10, 17) (20, 25) kind.History history_named
    (record { ascii = refl; short = omega arith; plain = refl; left = refl; said = λ path. refl; at = λ first second. refl; names = (ascii_text (codes "request") refl, ascii_text (codes "after") refl) })
    path small whole

report_more : (path : List ℕ) → IsText path → IsUtf8 path → Finds (codes "/report/" ++ path)
report_more path small whole =
    two_more (codes "/report/") report.text (9, 13) (16, 18) kind.Report report_named
    (record { ascii = refl; short = omega arith; plain = refl; left = refl; said = λ path. refl; at = λ first second. refl; names = (ascii_text (codes "from") refl, ascii_text (codes "to") refl) })
    path small whole

-- ---- the names of paths

below : (x : ℕ) → ltb x 128 ≡ true → ltb x param_token ≡ true
below x e = let small : x < 128 = ltb-true x 128 e in lt-ltb x param_token (omega arith)

fits_whole : (name path : List ℕ) → is_ascii name ≡ true → fits name path ≡ true → path ≡ name
fits_whole [] [] bytes e = refl
fits_whole [] (b ∷ path) bytes e = absurd (false≢true e)
fits_whole (x ∷ name) [] bytes e = absurd (false≢true e)
fits_whole (x ∷ name) (b ∷ path) bytes e =
    let parts = and_parts (ltb x 128) (is_ascii name) bytes in
    let byte : ltb x param_token ≡ true = below x parts.0 in
    let same = and_parts (x == b) (fits name path) (rw byte at e) in
    ap₂ (λ y ys. y ∷ ys) (sym (eqb-true x b same.0)) (fits_whole name path parts.1 same.1)

fits_front : (name pattern path : List ℕ) → is_ascii name ≡ true → fits (name ++ slash ∷ pattern) path ≡ true → (rest : List ℕ) × (path ≡ name ++ slash ∷ rest)
fits_front [] pattern [] bytes e = absurd (false≢true e)
fits_front [] pattern (b ∷ path) bytes e =
    let same = and_parts (slash == b) (fits pattern path) e in
    (path, ap (λ y. y ∷ path) (sym (eqb-true slash b same.0)))
fits_front (x ∷ name) pattern [] bytes e = absurd (false≢true e)
fits_front (x ∷ name) pattern (b ∷ path) bytes e =
    let parts = and_parts (ltb x 128) (is_ascii name) bytes in
    let byte : ltb x param_token ≡ true = below x parts.0 in
    let same = and_parts (x == b) (fits (name ++ slash ∷ pattern) path) (rw byte at e) in
    let later = fits_front name pattern path parts.1 same.1 in
    (later.0, ap₂ (λ y ys. y ∷ ys) (sym (eqb-true x b same.0)) later.1)

-- the first of the words
abbrev first_of : List (List ℕ) → List ℕ
first_of [] = []
first_of (word ∷ words) = word

not_this : (name word : List ℕ) → name ≡ word → same word name ≡ false → ⊥
not_this name word is other = false≢true (sym (subst (λ w. same w name ≡ false) (sym is) other) ∙ same_refl name)

not_alone : (name path word : List ℕ) (more : List (List ℕ)) → words 47 path ≡ word ∷ more → same word name ≡ false → is_ascii name ≡ true → words 47 name ≡ name ∷ [] → fits name path ≡ false
not_alone name path word more cut other bytes plain =
    false_from_ne_true (fits name path) (λ e. not_this name word (ap first_of (sym plain ∙ ap (words 47) (sym (fits_whole name path bytes e)) ∙ cut)) other)

not_front : (name pattern path word : List ℕ) (more : List (List ℕ)) → words 47 path ≡ word ∷ more → same word name ≡ false → is_ascii name ≡ true → ((rest : List ℕ) → words 47 (name ++ slash ∷ rest) ≡ name ∷ words 47 rest)
    → fits (name ++ slash ∷ pattern) path ≡ false
not_front name pattern path word more cut other bytes parts =
    false_from_ne_true (fits (name ++ slash ∷ pattern) path)
    (λ e. let front = fits_front name pattern path bytes e in not_this name word (ap first_of (sym (parts front.0) ∙ ap (words 47) (sym front.1) ∙ cut)) other)

-- which name a word is
data Name (word : List ℕ) : Type 0 where
  is_acts : word ≡ codes "acts" → Name word
  is_stacks : word ≡ codes "stacks" → Name word
  is_procedures : word ≡ codes "procedures" → Name word
  is_places : word ≡ codes "places" → Name word
  is_requests : word ≡ codes "requests" → Name word
  is_history : word ≡ codes "history" → Name word
  is_report : word ≡ codes "report" → Name word
  is_waiting : word ≡ codes "waiting" → Name word
  is_urgent : word ≡ codes "urgent" → Name word
  is_moves : word ≡ codes "moves" → Name word
  is_wall : word ≡ codes "board" → Name word
  is_opening : word ≡ codes "opening" → Name word
  is_none : same word (codes "acts") ≡ false → same word (codes "stacks") ≡ false → same word (codes "procedures") ≡ false → same word (codes "places") ≡ false
      → same word (codes "requests") ≡ false → same word (codes "history") ≡ false → same word (codes "report") ≡ false → same word (codes "waiting") ≡ false → same word (codes "moves") ≡ false
      → same word (codes "urgent") ≡ false → same word (codes "board") ≡ false → same word (codes "opening") ≡ false → Name word

name_of : (word : List ℕ) → Name word
name_of word =
    ⊎_elim is_acts (λ a. ⊎_elim is_stacks (λ b. ⊎_elim is_procedures (λ c. ⊎_elim is_places (λ d. ⊎_elim is_requests (λ e. ⊎_elim is_history (λ f. ⊎_elim is_report (λ g. ⊎_elim is_waiting (λ h. ⊎_elim is_moves (λ i. ⊎_elim is_urgent (λ l. ⊎_elim is_wall (λ j. ⊎_elim is_opening (λ k. is_none a b c d e f g h i l j k)
    (is_word word (codes "opening"))) (is_word word (codes "board"))) (is_word word (codes "urgent"))) (is_word word (codes "moves"))) (is_word word (codes "waiting"))) (is_word word (codes "report"))) (is_word word (codes "history"))) (is_word word (codes "requests"))) (is_word word (codes "places"))) (is_word word (codes "procedures")))
    (is_word word (codes "stacks"))) (is_word word (codes "acts"))

no_name : (path word : List ℕ) (more : List (List ℕ)) → words 47 path ≡ word ∷ more
    → same word (codes "acts") ≡ false → same word (codes "stacks") ≡ false → same word (codes "procedures") ≡ false → same word (codes "places") ≡ false
    → same word (codes "requests") ≡ false → same word (codes "history") ≡ false → same word (codes "report") ≡ false → same word (codes "waiting") ≡ false → same word (codes "moves") ≡ false → same word (codes "urgent") ≡ false → same word (codes "board") ≡ false → same word (codes "opening") ≡ false → Finds (47 ∷ path)
no_name path word more cut a b c d e f g h i l j k =
    subst (IsRouted (47 ∷ path)) (sym (unfit (47 ∷ path) rows none)) (rw cut (rw a (rw b (rw c (rw d (rw e (rw f (rw g (rw h (rw l (rw i (rw j (rw k refl)))))))))))))
  where
    none : any_fits rows (47 ∷ path) ≡ false
    none =
        or_from _ _ (not_alone (codes "acts") path word more cut a refl refl)
        (or_from _ _ (not_alone (codes "board") path word more cut j refl refl)
        (or_from _ _ (not_front (codes "history") (param_token ∷ slash ∷ param_token ∷ []) path word more cut f refl (λ rest. refl))
        (or_from _ _ (not_front (codes "moves") (param_token ∷ []) path word more cut i refl (λ rest. refl))
        (or_from _ _ (not_alone (codes "opening") path word more cut k refl refl)
        (or_from _ _ (not_alone (codes "places") path word more cut d refl refl)
        (or_from _ _ (not_front (codes "procedures") (param_token ∷ []) path word more cut c refl (λ rest. refl))
        (or_from _ _ (not_alone (codes "procedures") path word more cut c refl refl)
        (or_from _ _ (not_front (codes "report") (param_token ∷ slash ∷ param_token ∷ []) path word more cut g refl (λ rest. refl))
        (or_from _ _ (not_front (codes "requests") (param_token ∷ []) path word more cut e refl (λ rest. refl))
        (or_from _ _ (not_alone (codes "stacks") path word more cut b refl refl)
        (or_from _ _ (not_front (codes "urgent") (param_token ∷ []) path word more cut l refl (λ rest. refl))
        (or_from _ _ (not_alone (codes "waiting") path word more cut h refl refl) refl))))))))))))

-- ---- the law

alone : (path : List ℕ) → Whole path → Name path → Finds (47 ∷ path)
alone path w (is_acts e) = subst (λ l. Finds (47 ∷ l)) (sym e) acts_alone
alone path w (is_stacks e) = subst (λ l. Finds (47 ∷ l)) (sym e) stacks_alone
alone path w (is_procedures e) = subst (λ l. Finds (47 ∷ l)) (sym e) procedures_alone
alone path w (is_places e) = subst (λ l. Finds (47 ∷ l)) (sym e) places_alone
alone path w (is_requests e) = subst (λ l. Finds (47 ∷ l)) (sym e) request_alone
alone path w (is_history e) = subst (λ l. Finds (47 ∷ l)) (sym e) history_alone
alone path w (is_report e) = subst (λ l. Finds (47 ∷ l)) (sym e) report_alone
alone path w (is_waiting e) = subst (λ l. Finds (47 ∷ l)) (sym e) waiting_alone
alone path w (is_urgent e) = subst (λ l. Finds (47 ∷ l)) (sym e) urgent_alone
alone path w (is_moves e) = subst (λ l. Finds (47 ∷ l)) (sym e) moves_alone
alone path w (is_wall e) = subst (λ l. Finds (47 ∷ l)) (sym e) wall_alone
alone path w (is_opening e) = subst (λ l. Finds (47 ∷ l)) (sym e) opening_alone
alone path w (is_none a b c d e f g h i l j k) = no_name path path [] w.cut a b c d e f g h i l j k

more : (path : List ℕ) (p : Parted path) → IsText p.rest → IsUtf8 p.rest → Name p.word → Finds (47 ∷ path)
more path p small whole name = by name
  where
    at : (name : List ℕ) → p.word ≡ name → Finds (47 ∷ name ++ slash ∷ p.rest) → Finds (47 ∷ path)
    at name e found = subst (λ l. Finds (47 ∷ l)) (sym (p.is ∙ ap (λ w. w ++ slash ∷ p.rest) e)) found

    by : Name p.word → Finds (47 ∷ path)
    by (is_acts e) = at (codes "acts") e (acts_more p.rest)
    by (is_stacks e) = at (codes "stacks") e (stacks_more p.rest)
    by (is_procedures e) = at (codes "procedures") e (procedure_more p.rest small whole)
    by (is_places e) = at (codes "places") e (places_more p.rest)
    by (is_requests e) = at (codes "requests") e (request_more p.rest small whole)
    by (is_history e) = at (codes "history") e (history_more p.rest small whole)
    by (is_report e) = at (codes "report") e (report_more p.rest small whole)
    by (is_waiting e) = at (codes "waiting") e (waiting_more p.rest)
    by (is_urgent e) = at (codes "urgent") e (urgent_more p.rest small whole)
    by (is_moves e) = at (codes "moves") e (moves_more p.rest small whole)
    by (is_wall e) = at (codes "board") e (wall_more p.rest)
    by (is_opening e) = at (codes "opening") e (opening_more p.rest)
    by (is_none a b c d e f g h i l j k) = no_name path p.word (words 47 p.rest) p.cut a b c d e f g h i l j k

behind : (path : List ℕ) → IsText path → IsUtf8 path → Finds (47 ∷ path)
behind path small whole = by (parted path)
  where
    by : Whole path ⊎ Parted path → Finds (47 ∷ path)
    by (inl w) = alone path w (name_of path)
    by (inr p) = more path p (bytes_behind p.word (slash ∷ p.rest) (subst IsText p.is small)).1 (text_parts p.word p.rest (subst IsUtf8 p.is whole)).1 (name_of p.word)

-- a path that does not begin with a slash
no_slash : (path : List ℕ) → ((rest : List ℕ) → path ≡ 47 ∷ rest → ⊥) → any_fits rows path ≡ false
no_slash [] front = refl
no_slash (b ∷ path) front =
    let other : (47 == b) ≡ false = ne_eqb 47 b (λ e. front path (ap (λ y. y ∷ path) (sym e))) in
    rw other refl

at_front : (path word rest : List ℕ) → path ≡ word ++ slash ∷ rest → words 47 path ≡ word ∷ words 47 rest → has_slash word ≡ false → IsText path → IsUtf8 path → Finds path
at_front path [] rest is cut e small whole =
    subst Finds (sym is) (behind rest (subst IsText is small).1 (text_parts [] rest (subst IsUtf8 is whole)).1)
at_front path (b ∷ word) rest is cut e small whole =
    subst (IsRouted path) (sym (unfit path rows (no_slash path (λ left f. false≢true (sym e ∙ ap (λ x. has_slash (x ∷ word)) (ap (λ l. get_or l 0 0) (sym is ∙ f))))))) (rw cut (rw (filled_is b word) refl))

pub law : (path : List ℕ) → IsText path → IsUtf8 path → IsRouted path (first desk_routes path)
law path small whole = subst (λ r. IsRouted path (seek 0 r path)) (sym desk_rows) (by (parted path))
  where
    by : Whole path ⊎ Parted path → Finds path
    by (inl w) = subst (IsRouted path) (sym (unfit path rows (no_slash path (λ left f. false≢true (sym w.plain ∙ ap has_slash f))))) (rw w.cut (same_either (is_filled path) None None None refl refl))
    by (inr p) = at_front path p.word p.rest p.is p.cut p.plain small whole

-- ---- the function

pub not_found : (router : KindRoutes) (path text : List ℕ) → router ≡ desk_routes → text ≡ path → ((i : ℕ) → get_or path i 0 < 256) → IsUtf8 path → first router text ≡ None → None ≡ path_of path
not_found router path text held same_text small whole none =
    let nothing : first desk_routes path ≡ None = sym (ap₂ first held same_text) ∙ none in
    sym (subst (IsRouted path) nothing (law path (bytes_text path small) whole))

pub found : (router : KindRoutes) (path text shown : List ℕ) (route : RouteOf RouteKind) (one two first_bytes second_bytes : List ℕ) → router ≡ desk_routes → text ≡ path → shown ≡ text
    → ((i : ℕ) → get_or path i 0 < 256) → IsUtf8 path → first router text ≡ Some route
    → (AllText (pairs_of route shown) → (one ≡ first_text (pairs_of route shown)) × (two ≡ second_text (pairs_of route shown))) → first_bytes ≡ one → second_bytes ≡ two
    → Some (named_at route.value first_bytes second_bytes) ≡ path_of path
found router path text shown route one two first_bytes second_bytes held same_text same_path small whole is texts first_is second_is =
    let route_is : first desk_routes path ≡ Some route = sym (ap₂ first held same_text) ∙ is in
    let got : IsRouted path (Some route) = subst (IsRouted path) route_is (law path (bytes_text path small) whole) in
    let path_is : shown ≡ path = same_path ∙ same_text in
    let all : AllText (pairs_of route shown) = subst (λ l. AllText (pairs_of route l)) (sym path_is) got.0 in
    let both = texts all in
    ap₂ (λ x y. Some (named_at route.value x y)) (first_is ∙ both.0 ∙ ap (λ l. first_text (pairs_of route l)) path_is) (second_is ∙ both.1 ∙ ap (λ l. second_text (pairs_of route l)) path_is)
    ∙ sym got.1
