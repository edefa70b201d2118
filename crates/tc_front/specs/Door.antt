-- Which requests are let in. A browser on this machine sends requests to 127.0.0.1 for pages of any site; what it says of such a page tells it from the desk's own.
use Rattle.std.specs.Prelude.{◌≡◌, ◌⊎◌, ℕ, nat_eq, Bool, true, false, ◌&&◌, ◌||◌, if◌then◌else◌, Option, Some, None, List, [], ◌∷◌, ◌++◌, codes, drop, length, map, take}
use Rattle.std.specs.Fmt.{decimal}
use Rattle.std.specs.List.{list_any, starts_with}
use Rattle.httparse.specs.Grammar.{RequestHead}
use Rattle.httparse.specs.Spans.{name_and_value}
use Rattle.tc_front.specs.declared.judge.Refused.TheVariants.{Foreign}
use Rattle.tc_front.specs.Ends.{head_end, skip_ends}
use Rattle.tc_front.specs.Fields.{Held, absent, found_of, same_name, several, single, values}
use Rattle.tc_front.specs.Front.{Asked, refuses}
use Rattle.tc_front.specs.Judge.{IsGoodHead}
use Rattle.tc_front.specs.Paths.{same}

-- ---- the hosts by which a desk is called

-- a name, alone and with the port
abbrev pub both_forms : ℕ → List ℕ → List (List ℕ)
both_forms port name = name ∷ (name ++ codes ":" ++ decimal port) ∷ []

-- the names of this machine
abbrev pub own_hosts : ℕ → List (List ℕ)
own_hosts port = both_forms port (codes "127.0.0.1") ++ both_forms port (codes "localhost")

-- those, and a name that was given
abbrev pub hosts_of : ℕ → Option (List ℕ) → List (List ℕ)
hosts_of port None = own_hosts port
hosts_of port (Some name) = own_hosts port ++ both_forms port name

-- a host is one of them, in letters of either case (RFC 9110, section 4.2.3)
abbrev pub is_taken : List (List ℕ) → List ℕ → Bool
is_taken hosts host = list_any (λ own. same_name host own) hosts

-- ---- what a browser says of a page

-- it came from one of the hosts by this scheme
abbrev pub is_from : List (List ℕ) → List ℕ → List ℕ → Bool
is_from hosts origin scheme = starts_with nat_eq origin scheme && is_taken hosts (drop (length scheme) origin)

-- its origin is the desk's, or that of a server which stands before it
abbrev pub is_own_origin : List (List ℕ) → List ℕ → Bool
is_own_origin hosts origin = is_from hosts origin (codes "http://") || is_from hosts origin (codes "https://")

-- it is a page of the site that is asked, or a person asks by an address alone (W3C Fetch Metadata Request Headers, section 2.3)
abbrev pub is_own_site : List ℕ → Bool
is_own_site site = same site (codes "same-origin") || same site (codes "none")

-- ---- a request

-- a field passes that is not there, or is there once and whose value does
abbrev pub passes : (List ℕ → Bool) → Held → Bool
passes test absent = true
passes test (single value) = test value
passes test several = false

-- the field of this name
abbrev pub held : List ℕ → List (List ℕ × List ℕ) → Held
held name fields = found_of (values name fields)

-- a POST is sent by no page, or by one of the desk's own
abbrev pub is_own_post : List (List ℕ) → List (List ℕ × List ℕ) → Bool
is_own_post hosts fields = passes (is_own_origin hosts) (held (codes "origin") fields) && passes is_own_site (held (codes "sec-fetch-site") fields)

-- a request of this method with these fields: it calls the desk by one of the hosts, and if it is a POST no foreign page sends it
abbrev pub lets_in : List (List ℕ) → List ℕ → List (List ℕ × List ℕ) → Bool
lets_in hosts method fields =
    passes (is_taken hosts) (held (codes "host") fields) && (if same method (codes "POST") then is_own_post hosts fields else true)

-- this head text is a request's, and it is not let in
abbrev pub IsForeign : List (List ℕ) → List ℕ → Type 0
IsForeign hosts text = (h : RequestHead) × IsGoodHead text 64 h × (lets_in hosts h.method (map name_and_value h.fields) ≡ false)

-- ---- a front of the input

abbrev pub IsForeignAt : List (List ℕ) → Option ℕ → List ℕ → Type 0
IsForeignAt hosts None text = ⊥
IsForeignAt hosts (Some end) text = IsForeign hosts (skip_ends (take end text))

-- the head of this front is not let in
unfoldable pub IsForeignFront : List (List ℕ) → List ℕ → Type 0
IsForeignFront hosts text = IsForeignAt hosts (head_end (take 8192 text)) text

-- What is served of a front that decides: what it asks, but a foreign one is refused, whatever it asks.
abbrev pub Enters : List (List ℕ) → List ℕ → Asked → Asked → Type 0
Enters hosts text asked entered = (IsForeignFront hosts text × (entered ≡ refuses Foreign)) ⊎ ((¬ (IsForeignFront hosts text)) × (entered ≡ asked))
