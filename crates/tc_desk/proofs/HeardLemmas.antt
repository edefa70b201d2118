-- The tie between book and link is kept by all that the book hears.
use Rattle.std.proofs.Common.{◌≡◌, ℕ, ◌+◌, ◌≤◌, List, [], ◌∷◌, ◌++◌, length, refl, sym, ◌∙◌, subst, append_assoc, append-nil, arith}
use Rattle.std.proofs.lemmas.List.{length-append}
use Rattle.std.specs.List.{flat_map}
use Rattle.tc_world.specs.declared.events.LinkIndication.{LinkIndication}
use Rattle.tc_world.specs.Telling.{leaves_said, sent_said, confirmed_said}
use Rattle.tc_book.specs.declared.stamps.Stamp.{Stamp}
use Rattle.tc_book.specs.Book.{Book}
use Rattle.tc_board.specs.Mirror.{MirrorState}
use Rattle.tc_desk.specs.Effects.{heard, heard_all}
use Rattle.tc_desk.specs.Tied.{AreTied}
use Rattle.tc_desk.proofs.TiedLemmas.{hears_both}
use Rattle.tc_desk.proofs.RiderLemmas.{hears_apart}
use Rattle.tc_desk.proofs.RowLemmas.{hears_told}

-- one indication
hears_tied : (o : ℕ) (stamp : Stamp) (mirror : MirrorState) (i : LinkIndication) (book : Book) (waits sent confirmed : List ℕ) → length (leaves_said i ++ waits) ≤ 1
    → AreTied o book (leaves_said i ++ waits) sent confirmed → AreTied o (heard stamp mirror book i) waits (sent ++ sent_said i) (confirmed ++ confirmed_said i)
hears_tied o stamp mirror i book waits sent confirmed few tied =
    let both = hears_both stamp mirror i book waits sent few (tied.waits, tied.sent) in
    record { waits = both.0; sent = both.1; apart = hears_apart stamp mirror i book waits sent few tied.waits tied.sent tied.apart; rows = hears_told o stamp mirror i book waits sent confirmed tied.waits tied.rows }

-- all that the link tells of an event
pub heard_tied : (o : ℕ) (stamp : Stamp) (mirror : MirrorState) (all : List LinkIndication) (book : Book) (waits rest sent confirmed : List ℕ)
    → waits ≡ flat_map leaves_said all ++ rest → length waits ≤ 1 → AreTied o book waits sent confirmed
    → AreTied o (heard_all stamp mirror all book) rest (sent ++ flat_map sent_said all) (confirmed ++ flat_map confirmed_said all)
heard_tied o stamp mirror [] book waits rest sent confirmed e few tied =
    subst (λ l. AreTied o book rest l (confirmed ++ [])) (sym (append-nil sent))
    (subst (AreTied o book rest sent) (sym (append-nil confirmed)) (subst (λ l. AreTied o book l sent confirmed) e tied))
heard_tied o stamp mirror (i ∷ all) book waits rest sent confirmed e few tied =
    let others : List ℕ = flat_map leaves_said all ++ rest in
    let is : waits ≡ leaves_said i ++ others = e ∙ append_assoc (leaves_said i) (flat_map leaves_said all) rest in
    let short : length (leaves_said i ++ others) ≤ 1 = subst (λ l. length l ≤ 1) is few in
    let long : length (leaves_said i ++ others) ≡ length (leaves_said i) + length others = length-append (leaves_said i) others in
    let one = hears_tied o stamp mirror i book others sent confirmed short (subst (λ l. AreTied o book l sent confirmed) is tied) in
    let on = heard_tied o stamp mirror all (heard stamp mirror book i) others rest (sent ++ sent_said i) (confirmed ++ confirmed_said i) refl (omega (arith, short, long)) one in
    subst (λ l. AreTied o (heard_all stamp mirror (i ∷ all) book) rest l (confirmed ++ flat_map confirmed_said (i ∷ all))) (append_assoc sent (sent_said i) (flat_map sent_said all))
    (subst (AreTied o (heard_all stamp mirror (i ∷ all) book) rest ((sent ++ sent_said i) ++ flat_map sent_said all)) (append_assoc confirmed (confirmed_said i) (flat_map confirmed_said all)) on)

-- where nobody waits any more
pub waits_no_more : (o : ℕ) (book : Book) (waits sent confirmed : List ℕ) → AreTied o book waits sent confirmed → AreTied o book [] sent confirmed
waits_no_more o book waits sent confirmed tied = record { waits = tt; sent = tied.sent; apart = record { riders = tied.apart.riders; next_riders = tt; apart = tied.apart.apart; next_apart = tt }; rows = tied.rows }
