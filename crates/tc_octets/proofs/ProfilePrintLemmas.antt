-- One line more of a printed profile.
use Rattle.std.proofs.Common.{◌≡◌, ℕ, ◌+◌, ◌<◌, List, [], ◌∷◌, ◌++◌, take, length, get_or, ap, sym, ◌∙◌}
use Rattle.std.specs.Prelude.{codes}
use Rattle.std.specs.List.{flat_map}
use Rattle.std.proofs.lemmas.List.{append_assoc, flat_map_more, take_more}
use Rattle.tc_octets.specs.declared.profiles.Profile.{Profile}
use Rattle.tc_octets.specs.declared.keys.Key.{Key}
use Rattle.tc_octets.specs.declared.keys.TheConstants.{KEYS}
use Rattle.tc_octets.specs.ProfileKeys.{name_of, spelled}
use Rattle.tc_octets.specs.ProfileTexts.{line_of}

abbrev pub ended : Profile → Key → List ℕ
ended profile key = line_of profile key ++ 10 ∷ []

-- the pieces of a line, as they are written one after the other
pieces : (a b c d : List ℕ) → a ++ (b ++ (c ++ d)) ≡ ((a ++ b) ++ c) ++ d
pieces a b c d = sym (append_assoc (a ++ b) c d ∙ append_assoc a b (c ++ d))

pub lines_more : (profile : Profile) (index : ℕ) (other : Key) (name : List ℕ) → index < length KEYS → name ≡ name_of (get_or KEYS index other)
    → flat_map (ended profile) (take index KEYS) ++ (name ++ (codes " = " ++ (spelled profile (get_or KEYS index other) ++ codes "\n")))
    ≡ flat_map (ended profile) (take (index + 1) KEYS)
lines_more profile index other name below e =
    ap (λ start. flat_map (ended profile) (take index KEYS) ++ (start ++ (codes " = " ++ (spelled profile (get_or KEYS index other) ++ codes "\n"))))
    e
    ∙ ap (λ line. flat_map (ended profile) (take index KEYS) ++ line)
    (pieces (name_of (get_or KEYS index other)) (codes " = ") (spelled profile (get_or KEYS index other)) (codes "\n"))
    ∙ flat_map_more (ended profile) [] (take index KEYS) (get_or KEYS index other)
    ∙ ap (flat_map (ended profile)) (sym (take_more KEYS index other below))
