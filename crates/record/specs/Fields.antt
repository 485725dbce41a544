-- Fields: how one is cut off a record, where it may stand, and what it says. Definitions only.
use Rattle.std.specs.Prelude.{ℕ, ◌+◌, ◌*◌, cond, true, false, List, [], ◌∷◌, length, take, drop, Ok, Err, Result, ◌==◌, nat_lt, slice_index}
use Rattle.readers.specs.declared.mount.MountFault.{MountFault}
use Rattle.readers.specs.declared.mount.Quarters.{Quarters}
use Rattle.readers.specs.Quarters.{quarters_of}
use Rattle.sheets.specs.declared.book.Entry.{Entry}
use Rattle.sheets.specs.declared.book.Call.TheVariants as call
use Rattle.record.specs.declared.edition.Edition.{Edition}
use Rattle.record.specs.declared.edition.Edition.TheVariants as edition
use Rattle.record.specs.declared.edition.Mount.{Mount}
use Rattle.record.specs.declared.fault.Cause.{Cause}
use Rattle.record.specs.declared.fault.Cause.TheVariants as cause
use Rattle.record.specs.declared.item.Item.{Item}
use Rattle.record.specs.declared.item.Item.TheVariants as item
use Rattle.record.specs.declared.state.Kind.{Kind}
use Rattle.record.specs.declared.state.Kind.TheVariants as kind
use Rattle.record.specs.declared.state.State.{State}
use Rattle.record.specs.declared.state.State.TheVariants as state

-- the next question, where the one before got a yes
abbrev pub and_then : {X Y E : Type 0} → Result X E → (X → Result Y E) → Result Y E
and_then (Ok x) f = f x
and_then (Err e) f = Err e

-- the number of an edition
abbrev pub edition_number : Edition → ℕ
edition_number edition.Radians = 5
edition_number edition.HalfTurns = 6

-- a field taken apart, with the bytes after it
pub record Cut : Type 0 where
  pub tag : ℕ
  pub body : List ℕ
  pub rest : List ℕ

-- is the field whole: its three head bytes and its body?
abbrev pub cut : List ℕ → Result Cut Cause
cut [] = Err cause.Short
cut (t ∷ []) = Err cause.Short
cut (t ∷ hi ∷ []) = Err cause.Short
cut (t ∷ hi ∷ lo ∷ rest) = cond (nat_lt (length rest) (256 * hi + lo)) (Err cause.Short) (Ok (record { tag = t; body = take (256 * hi + lo) rest; rest = drop (256 * hi + lo) rest }))

-- the tags that may stand from the second field on
abbrev pub row_tags : ℕ → Result (Kind × State) Cause
row_tags tag = cond (tag == 3) (Ok (kind.Enter, state.Rows)) (cond (tag == 4) (Ok (kind.Withdraw, state.Rows)) (cond (tag == 5) (Ok (kind.Correct, state.Rows)) (Err cause.Tag)))

-- may the tag stand here: 1 first only, 2 second only, 3 to 5 after the first; and the state after it
abbrev pub next : State → ℕ → Result (Kind × State) Cause
next state.Edition tag = cond (tag == 1) (Ok (kind.Edition, state.Mount)) (Err cause.Tag)
next state.Mount tag = cond (tag == 2) (Ok (kind.Mount, state.Rows)) (row_tags tag)
next state.Rows tag = row_tags tag

-- the length of a body, by its kind
abbrev pub length_of : Kind → ℕ
length_of kind.Edition = 1
length_of kind.Mount = 2
length_of kind.Enter = 8
length_of kind.Withdraw = 2
length_of kind.Correct = 8

-- is the length right?
abbrev pub sized : Kind → List ℕ → Result (Unit {0}) Cause
sized k body = cond (length body == length_of k) (Ok tt) (Err cause.Length)

-- two bytes from place i on, the high one first
abbrev pub wide : List ℕ → ℕ → ℕ
wide body i = 256 * slice_index body i + slice_index body (i + 1)

-- sample, speed and word, each high byte first
abbrev pub entry_of : List ℕ → Entry
entry_of body = record { sample = wide body 0; speed = wide body 2; word = wide body 4 * 65536 + wide body 6 }

-- edition 5 or 6
abbrev pub edition_from : ℕ → Result Edition Cause
edition_from b = cond (b == 5) (Ok edition.Radians) (cond (b == 6) (Ok edition.HalfTurns) (Err cause.Value))

-- with these quarter turns, if they are allowed: mirror 0 or 1
abbrev pub mirrored_by : ℕ → Result Quarters MountFault → Result Mount Cause
mirrored_by m (Ok q) = cond (m == 0) (Ok (record { quarters = q; mirrored = false })) (cond (m == 1) (Ok (record { quarters = q; mirrored = true })) (Err cause.Value))
mirrored_by m (Err e) = Err cause.Value

-- 0 to 3 quarter turns, mirror 0 or 1
abbrev pub mount_from : ℕ → ℕ → Result Mount Cause
mount_from q m = mirrored_by m (quarters_of q)

-- what a body of the right length says, if its values are allowed
abbrev pub item_of : Kind → List ℕ → Result Item Cause
item_of kind.Edition body = and_then (edition_from (slice_index body 0)) (λ e. Ok (item.Edition e))
item_of kind.Mount body = and_then (mount_from (slice_index body 0) (slice_index body 1)) (λ m. Ok (item.Mount m))
item_of kind.Enter body = Ok (item.Put (call.Enter (entry_of body)))
item_of kind.Withdraw body = Ok (item.Put (call.Withdraw (wide body 0)))
item_of kind.Correct body = Ok (item.Put (call.Correct (entry_of body)))

-- a field that was read: what it says, the state after it, and the bytes after it
pub record Read : Type 0 where
  pub item : Item
  pub state : State
  pub rest : List ℕ

-- with its values allowed
abbrev pub valued : Cut → Kind × State → Unit {0} → Result Read Cause
valued c k _ = and_then (item_of k.0 c.body) (λ i. Ok (record { item = i; state = k.1; rest = c.rest }))

-- is its length right, are its values allowed?
abbrev pub measured : Cut → Kind × State → Result Read Cause
measured c k = and_then (sized k.0 c.body) (valued c k)

-- may its tag stand here, is its length right, are its values allowed?
abbrev pub placed : State → Cut → Result Read Cause
placed s c = and_then (next s c.tag) (measured c)

-- the first field of the bytes, in a state: is it whole, may its tag stand here, is its length right, are its values allowed?
unfoldable pub field_at : State → List ℕ → Result Read Cause
field_at s bytes = and_then (cut bytes) (placed s)
