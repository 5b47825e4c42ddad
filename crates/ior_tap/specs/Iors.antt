-- IORs: object references with a location and taps.
use Rattle.std.specs.Prelude.{◌≡◌, ℕ, ◌+◌, ◌*◌, ◌<◌, ◌≤◌, List, [], ◌∷◌, ◌++◌, length, map, take, drop, Option, Some, None, nat_le, ◌==◌, ◌&&◌, if◌then◌else◌, unwrap_or, option_map, option_and_then}
use Rattle.std.specs.List.{flat_map}
use Rattle.std.specs.Option.{option_zip}
use Rattle.carousel_profile.specs.declared.TheConstants.{ASSOCIATION_TAG, DELIVERY_USE, DSI_TRANSACTION, NO_TIME_OUT}
use Rattle.oc_bytes.specs.Numbers.{two_bytes, four_bytes, number_of}
use Rattle.oc_bytes.specs.Grammar.{Grammar, one, two, four, number, bytes, sized, each, field, gives, this, front_of, spell, Reads as ReadsBy}
use Rattle.module_groups.specs.declared.TheConstants.{GREATEST_ID}
use Rattle.module_groups.specs.Groups.{group_of}
use Rattle.ior_tap.specs.declared.Location.{Location}
use Rattle.ior_tap.specs.declared.Tap.{Tap}
use Rattle.ior_tap.specs.declared.Profile.{Profile}
use Rattle.ior_tap.specs.declared.Profile.TheVariants as code
use Rattle.ior_tap.specs.declared.Ior.{Ior}
use Rattle.ior_tap.specs.declared.IorFault.{IorFault}
use Rattle.ior_tap.specs.declared.IorFault.TheVariants as faults
use Rattle.ior_tap.specs.declared.tags.TheConstants.{BIOP_TAG, LOCATION_TAG, BINDER_TAG}

pub record TapFields : Type 0 where
  pub id : ℕ
  pub use_code : ℕ
  pub assoc : ℕ
  pub selector : List ℕ

pub data ProfileFields : Type 0 where
  Biop : Location → List TapFields → ProfileFields
  Other : ℕ → List ℕ → ProfileFields

pub record Fields : Type 0 where
  pub kind : List ℕ
  pub profiles : List ProfileFields

abbrev pub view_tap : Tap → TapFields
view_tap t = record { id = t.id; use_code = t.use_code; assoc = t.assoc; selector = t.selector.items }

abbrev pub view_profile : Profile → ProfileFields
view_profile (code.Biop location binder) = Biop location (map view_tap binder.taps.items)
view_profile (code.Other tag content) = Other tag content.items

abbrev pub view : Ior → Fields
view ior = record { kind = ior.kind; profiles = map view_profile ior.profiles.items }

-- ---- the grammar

abbrev pub tap : Grammar TapFields
tap =
    field (number two) (λ t. t.id) λ id.
    field (number two) (λ t. t.use_code) λ use_code.
    field (number two) (λ t. t.assoc) λ assoc.
    field (sized one) (λ t. t.selector) λ selector.
    gives (record { id = id; use_code = use_code; assoc = assoc; selector = selector })

-- an ObjectLocation; its version is 1.0
abbrev pub location : Grammar Location
location =
    field (number four) (λ l. l.carousel) λ carousel.
    field (number two) (λ l. l.module) λ module_id.
    field (this two 0x0100) (λ l. 0x0100) λ version.
    field (sized one) (λ l. l.key) λ key.
    gives (record { carousel = carousel; «module» = module_id; key = key })

-- a ConnBinder
abbrev pub taps : Grammar (List TapFields)
taps =
    field (number one) (λ ts. length ts) λ count.
    each tap count

-- a component of a profile: its tag and its bytes
abbrev pub component : Grammar (ℕ × List ℕ)
component =
    field (number four) (λ c. c.0) λ tag.
    field (sized one) (λ c. c.1) λ content.
    gives (tag, content)

-- what a BIOP profile holds; its byte order is 0
abbrev pub components : Grammar (List (ℕ × List ℕ))
components =
    field (this one 0) (λ cs. 0) λ byte_order.
    field (number one) (λ cs. length cs) λ count.
    each component count

-- the first component of a tag
abbrev pub component_of : ℕ → List (ℕ × List ℕ) → Option (List ℕ)
component_of tag [] = None
component_of tag (c ∷ cs) = if c.0 == tag then Some c.1 else component_of tag cs

-- a location and taps, where both components are there and are read; bytes after them are passed over
abbrev pub biop_in : List (ℕ × List ℕ) → Option ProfileFields
biop_in cs = option_map (λ p. Biop p.0 p.1) (option_zip
    (option_and_then (front_of location) (component_of LOCATION_TAG cs))
    (option_and_then (front_of taps) (component_of BINDER_TAG cs)))

-- What a profile's bytes stand for: with the BIOP tag and both components in the right form a location and taps, and else
-- any other profile. Other components, and bytes after the last one, are passed over.
abbrev pub profile_of : ℕ → List ℕ → ProfileFields
profile_of tag content =
    unwrap_or (if tag == BIOP_TAG then option_and_then biop_in (front_of components content) else None)
    (Other tag content)

-- the tag and the bytes with which a profile is spelled: the location first, then the taps
abbrev pub spelled_by : ProfileFields → ℕ × List ℕ
spelled_by (Biop l ts) =
    (BIOP_TAG, spell components ((LOCATION_TAG, spell location l) ∷ (BINDER_TAG, spell taps ts) ∷ []))
spelled_by (Other tag content) = (tag, content)

abbrev pub profile : Grammar ProfileFields
profile =
    field (number four) (λ p. (spelled_by p).0) λ tag.
    field (sized four) (λ p. (spelled_by p).1) λ content.
    gives (profile_of tag content)

-- an IOR: the type id has four bytes
abbrev pub ior : Grammar Fields
ior =
    field (this four 4) (λ i. 4) λ type_id_length.
    field (bytes 4) (λ i. i.kind) λ kind.
    field (number four) (λ i. length i.profiles) λ count.
    field (each profile count) (λ i. i.profiles) λ profiles.
    gives (record { kind = kind; profiles = profiles })

-- the bytes, all of them, are read as the IOR
abbrev pub Reads : List ℕ → Fields → Type 0
Reads = ReadsBy ior

-- ---- what is written

-- the transactionId by which a module is delivered: the identification is that of the DII that lists it, its group; version and flag are 0
abbrev pub delivery_of_module : ℕ → ℕ
delivery_of_module m = DSI_TRANSACTION + 2 * group_of m

-- the tap that is written for a module: delivery by the control messages
abbrev pub written_tap : ℕ → TapFields
written_tap m = record { id = 0; use_code = DELIVERY_USE; assoc = ASSOCIATION_TAG; selector = two_bytes 0x0001 ++ four_bytes (delivery_of_module m) ++ four_bytes NO_TIME_OUT }

-- the one form that is written: a profile with a location and the tap of its module
abbrev pub written_form : List ℕ → Location → Fields
written_form kind l = record { kind = kind; profiles = Biop l (written_tap l.module ∷ []) ∷ [] }

pub record IsWritten (ior : Fields) (l : Location) : Type 0 where
  pub form : ior ≡ written_form ior.kind l
  pub four : length ior.kind ≡ 4
  pub key : length l.key ≡ 4
  pub listed : (1 ≤ l.module) × (l.module ≤ GREATEST_ID)

-- a location whose numbers have room in their fields
pub record IsLocation (l : Location) : Type 0 where
  pub carousel : l.carousel < 4294967296
  pub module_id : l.module < 65536

abbrev pub tap_bytes : TapFields → List ℕ
tap_bytes t = two_bytes t.id ++ two_bytes t.use_code ++ two_bytes t.assoc ++ length t.selector ∷ t.selector

abbrev pub component_bytes : ℕ → List ℕ → List ℕ
component_bytes tag content = four_bytes tag ++ length content ∷ content

abbrev pub location_bytes : Location → List ℕ
location_bytes l = four_bytes l.carousel ++ two_bytes l.module ++ 1 ∷ 0 ∷ length l.key ∷ l.key

abbrev pub biop_bytes : Location → List TapFields → List ℕ
biop_bytes l ts = 0 ∷ 2 ∷ component_bytes LOCATION_TAG (location_bytes l)
    ++ component_bytes BINDER_TAG (length ts ∷ flat_map tap_bytes ts)

-- the one spelling of a location of objects of this kind, byte by byte: what the grammar spells for the written form
abbrev pub spelling : List ℕ → Location → List ℕ
spelling kind l = let content = biop_bytes l (written_tap l.module ∷ []) in
    four_bytes 4 ++ kind ++ four_bytes 1 ++ four_bytes BIOP_TAG ++ four_bytes (length content) ++ content

-- the first profile that has a location
abbrev pub biop_of_profiles : List ProfileFields → Option (Location × List TapFields)
biop_of_profiles [] = None
biop_of_profiles (Biop l ts ∷ rs) = Some (l, ts)
biop_of_profiles (Other tag content ∷ rs) = biop_of_profiles rs

-- the transactionId of the first delivery tap
abbrev pub delivery_of_taps : List TapFields → Option ℕ
delivery_of_taps [] = None
delivery_of_taps (t ∷ ts) =
    if (t.use_code == DELIVERY_USE) && nat_le 10 (length t.selector) && (number_of (take 2 t.selector) == 1)
    then Some (number_of (take 4 (drop 2 t.selector)))
    else delivery_of_taps ts

abbrev pub cause : IorFault → Option ℕ
cause (faults.BadIor place) = Some place
cause faults.NoMemory = None
