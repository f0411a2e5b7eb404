-- A header is read in one way only, and refused for one reason only.
use Rattle.std.proofs.Common.{◌≡◌, ◌≢◌, ℕ, ◌<◌, ◌≤◌, ◌⊎◌, inl, inr, List, length, get_or, refl, sym, ap, subst, ◌∙◌, arith}
use Rattle.byteorder.specs.Endian.{big_number, little_number}
use Rattle.savefile.specs.declared.fault.Fault.{Fault}
use Rattle.savefile.specs.declared.fault.Fault.TheVariants.{ShortHeader, NotSavefile, Version, LinkType}
use Rattle.savefile.specs.declared.header.Order.{Order}
use Rattle.savefile.specs.declared.header.Order.TheVariants.{Little, Big}
use Rattle.savefile.specs.declared.header.Unit.{Unit as TimeUnit}
use Rattle.savefile.specs.declared.header.Unit.TheVariants.{Micro, Nano}
use Rattle.savefile.specs.Savefile.{field, magic_of, HasMagic, HasVersion, IsHeader, RefusesHeader}

-- each item is a byte, past the end too
abbrev pub AreBytes : List ℕ → Type 0
AreBytes text = (i : ℕ) → get_or text i 0 < 256

-- the first byte of a magic number, the lowest first and the highest first
little_first : (unit : TimeUnit) (text : List ℕ) → AreBytes text → little_number 4 text ≡ magic_of unit → get_or text 0 0 ≢ 161
little_first Micro text fits e = λ h. omega (arith, fits 0, fits 1, fits 2, fits 3, e, h)
little_first Nano text fits e = λ h. omega (arith, fits 0, fits 1, fits 2, fits 3, e, h)

-- and the highest first
big_first : (unit : TimeUnit) (text : List ℕ) → AreBytes text → big_number 4 text ≡ magic_of unit → get_or text 0 0 ≡ 161
big_first Micro text fits e = omega (arith, fits 0, fits 1, fits 2, fits 3, e)
big_first Nano text fits e = omega (arith, fits 0, fits 1, fits 2, fits 3, e)

-- the magic number shows the byte order
pub one_order : (text : List ℕ) (o p : Order) (u v : TimeUnit) → AreBytes text → HasMagic text o u → HasMagic text p v → o ≡ p
one_order text Little Little u v fits e f = refl
one_order text Big Big u v fits e f = refl
one_order text Little Big u v fits e f = absurd (little_first u text fits e (big_first v text fits f))
one_order text Big Little u v fits e f = absurd (little_first v text fits f (big_first u text fits e))

-- a magic number has one unit
one_magic : (u v : TimeUnit) → magic_of u ≡ magic_of v → u ≡ v
one_magic Micro Micro e = refl
one_magic Nano Nano e = refl
one_magic Micro Nano e = absurd (omega (arith, e))
one_magic Nano Micro e = absurd (omega (arith, e))

-- and the unit
pub one_unit : (text : List ℕ) (o p : Order) (u v : TimeUnit) → AreBytes text → HasMagic text o u → HasMagic text p v → u ≡ v
one_unit text o p u v fits e f =
    one_magic u v (sym e ∙ ap (λ (x : Order). field x text 0 4) (one_order text o p u v fits e f) ∙ f)

-- what a header is not refused for
not_refused_by_version : (text : List ℕ) (o : Order) (u : TimeUnit) → AreBytes text → HasMagic text o u → HasVersion o text
    → (p : Order) (v : TimeUnit) → HasMagic text p v → (HasVersion p text → ⊥) → ⊥
not_refused_by_version text o u fits magic version p v m never =
    never (subst (λ (x : Order). HasVersion x text) (one_order text o p u v fits magic m) version)

-- a refused header is none
pub refused_is_none : (text : List ℕ) (fault : Fault) (o : Order) (u : TimeUnit) (snap : ℕ) → AreBytes text → RefusesHeader text fault → IsHeader o text u snap → ⊥
refused_is_none text ShortHeader o u snap fits r h = let size : 24 ≤ length text = h.size in omega (arith, r, size)
refused_is_none text NotSavefile o u snap fits r h = r.1 o u h.magic
refused_is_none text Version o u snap fits r h = not_refused_by_version text o u fits h.magic (h.major, h.minor) r.1 r.2 r.3 r.4
refused_is_none text LinkType o u snap fits r h =
    r.5 (ap (λ (x : Order). field x text 20 4) (one_order text r.1 o r.2 u fits r.3 h.magic) ∙ h.link_type)
refused_is_none text _ o u snap fits r h = r

-- ---- One fault

-- a text that is too short is refused for that alone
only_short : (text : List ℕ) (fault : Fault) → length text < 24 → RefusesHeader text fault → fault ≡ ShortHeader
only_short text ShortHeader lt r = refl
only_short text NotSavefile lt r = absurd (omega (arith, lt, r.0))
only_short text Version lt r = absurd (omega (arith, lt, r.0))
only_short text LinkType lt r = absurd (omega (arith, lt, r.0))
only_short text _ lt r = absurd r

-- one without a magic number for that alone
only_not_savefile : (text : List ℕ) (fault : Fault) → 24 ≤ length text → ((o : Order) (u : TimeUnit) → HasMagic text o u → ⊥) → RefusesHeader text fault → fault ≡ NotSavefile
only_not_savefile text ShortHeader le never r = absurd (omega (arith, le, r))
only_not_savefile text NotSavefile le never r = refl
only_not_savefile text Version le never r = absurd (never r.1 r.2 r.3)
only_not_savefile text LinkType le never r = absurd (never r.1 r.2 r.3)
only_not_savefile text _ le never r = absurd r

-- one of another version for that alone
only_version : (text : List ℕ) (fault : Fault) (o : Order) (u : TimeUnit) → AreBytes text → 24 ≤ length text → HasMagic text o u → (HasVersion o text → ⊥) → RefusesHeader text fault → fault ≡ Version
only_version text ShortHeader o u fits le m never r = absurd (omega (arith, le, r))
only_version text NotSavefile o u fits le m never r = absurd (r.1 o u m)
only_version text Version o u fits le m never r = refl
only_version text LinkType o u fits le m never r = absurd (not_refused_by_version text r.1 r.2 fits r.3 r.4 o u m never)
only_version text _ o u fits le m never r = absurd r

-- and one of another link type for that alone
only_link_type : (text : List ℕ) (fault : Fault) (o : Order) (u : TimeUnit) → AreBytes text → 24 ≤ length text → HasMagic text o u → HasVersion o text → RefusesHeader text fault → fault ≡ LinkType
only_link_type text ShortHeader o u fits le m ver r = absurd (omega (arith, le, r))
only_link_type text NotSavefile o u fits le m ver r = absurd (r.1 o u m)
only_link_type text Version o u fits le m ver r = absurd (not_refused_by_version text o u fits m ver r.1 r.2 r.3 r.4)
only_link_type text LinkType o u fits le m ver r = refl
only_link_type text _ o u fits le m ver r = absurd r

-- a header is refused for one fault alone
pub one_fault : (text : List ℕ) (fault other : Fault) → AreBytes text → RefusesHeader text fault → RefusesHeader text other → fault ≡ other
one_fault text ShortHeader other fits r s = sym (only_short text other r s)
one_fault text NotSavefile other fits r s = sym (only_not_savefile text other r.0 r.1 s)
one_fault text Version other fits r s = sym (only_version text other r.1 r.2 fits r.0 r.3 r.4 s)
one_fault text LinkType other fits r s = sym (only_link_type text other r.1 r.2 fits r.0 r.3 r.4 s)
one_fault text _ other fits r s = absurd r

-- ---- What the checks show

-- a text with a magic number is refused
pub refuses_by : (text : List ℕ) (order : Order) (unit : TimeUnit) (fault : Fault) → 24 ≤ length text → HasMagic text order unit
    → ((fault ≡ Version) × (HasVersion order text → ⊥)) ⊎ ((fault ≡ LinkType) × HasVersion order text × (field order text 20 4 ≢ 1)) → RefusesHeader text fault
refuses_by text order unit fault size magic (inl (is, none)) = subst (RefusesHeader text) (sym is) (size, order, unit, magic, none)
refuses_by text order unit fault size magic (inr (is, version, other)) = subst (RefusesHeader text) (sym is) (size, order, unit, magic, version, other)

-- or begins with a header
pub header_by : (text : List ℕ) (order : Order) (unit : TimeUnit) (snap : ℕ) → 24 ≤ length text → HasMagic text order unit
    → HasVersion order text × (field order text 20 4 ≡ 1) × (field order text 16 4 ≡ snap) → IsHeader order text unit snap
header_by text order unit snap size magic (version, link, told) =
    record { size = size; magic = magic; major = version.0; minor = version.1; snapshot = told; link_type = link }
