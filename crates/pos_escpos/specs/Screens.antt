-- What a customer display does with the bytes that reach it (CD5220, ESC/POS).
use Rattle.std.specs.Prelude.{◌≡◌, ℕ, ◌+◌, ◌-◌, ◌*◌, Bool, true, false, List, [], ◌∷◌, ◌++◌, length, replicate, nat_le}
use Rattle.std.specs.Prelude.{◌==◌, ◌&&◌, ◌||◌, if◌then◌else◌, Option, Some, None, slice_set}
use Rattle.std.specs.List.{fold}
use Rattle.pos_service.specs.declared.display_text.Place.{Place}
use Rattle.pos_escpos.specs.declared.settings.DisplayProtocol.{DisplayProtocol}
use Rattle.pos_escpos.specs.declared.settings.DisplayProtocol.TheVariants as protocol

-- a display's protocol and its size
pub record Make : Type 0 where
  pub protocol : DisplayProtocol
  pub rows : ℕ
  pub columns : ℕ

-- a display: its characters row by row, where the next one goes, whether it is known what it shows, the commands that
-- the machine doesn't know, and the bytes of a command that isn't whole yet
pub record Screen : Type 0 where
  pub characters : List ℕ
  pub cursor : Option Place
  pub is_known : Bool
  pub unknown : List (List ℕ)
  pub begun : List ℕ

-- a command that isn't said here
abbrev pub not_known : List ℕ → Screen → Screen
not_known bytes screen = record screen { unknown = screen.unknown ++ bytes ∷ [] }

-- it is open what is shown
abbrev pub open_left : Screen → Screen
open_left screen = record screen { is_known = false; cursor = None }

-- a command that isn't said here, or not with such numbers or at such a place, and may show anything
abbrev pub lost : List ℕ → Screen → Screen
lost bytes screen = open_left (not_known bytes screen)

-- the cursor is somewhere else, if that is a place of the display
abbrev pub cursor_set : List ℕ → Option Place → Screen → Screen
cursor_set bytes None screen = lost bytes screen
cursor_set bytes (Some place) screen = record screen { cursor = Some place }

-- clear: blanks everywhere, and the cursor at the first place
abbrev pub cleared : Make → Screen → Screen
cleared make screen = record screen {
  characters = replicate (make.rows * make.columns) 32;
  cursor = Some (record { row = 0; column = 0 });
  is_known = true;
}

-- one right of a place; right of the last column displays differ
abbrev pub next_place : ℕ → Place → Option Place
next_place columns place =
    if place.column + 1 == columns then None else Some (record { row = place.row; column = place.column + 1 })

-- a character at the cursor
abbrev pub put_at : Make → ℕ → Option Place → Screen → Screen
put_at make b None screen = lost (b ∷ []) screen
put_at make b (Some place) screen = record screen {
  characters = slice_set screen.characters (place.row * make.columns + place.column) b;
  cursor = next_place make.columns place;
}

-- the cursor to column x and row y, from 1
abbrev pub place_at : Make → ℕ → ℕ → Option Place
place_at make x y =
    if nat_le 1 x && nat_le x make.columns && nat_le 1 y && nat_le y make.rows
    then Some (record { row = y - 1; column = x - 1 }) else None

-- how many bytes the command has that begins so: ESC and US begin longer ones
abbrev pub size_of : DisplayProtocol → List ℕ → ℕ
size_of is [] = 1
size_of is (a ∷ []) = if a == 27 || a == 31 then 2 else 1
size_of protocol.Cd5220 (a ∷ b ∷ more) = if a == 27 && b == 108 then 4 else 2
size_of protocol.EscPos (a ∷ b ∷ more) = if a == 31 && b == 36 then 4 else (if a == 31 && b == 114 then 3 else 2)

-- a single byte: clear, home, a character of 20 and more, or another control character
abbrev pub obeys_byte : Make → ℕ → Screen → Screen
obeys_byte make b screen =
    if b == 12 then cleared make screen
    else (if b == 11 then cursor_set (b ∷ []) (place_at make 1 1) screen
    else (if nat_le 32 b then put_at make b screen.cursor screen else lost (b ∷ []) screen))

-- a command of two bytes: ESC @ leaves it open what is shown
abbrev pub obeys_two : ℕ → ℕ → Screen → Screen
obeys_two a b screen = if a == 27 && b == 64 then open_left screen else lost (a ∷ b ∷ []) screen

-- a command that is whole: four bytes set the cursor, and three switch reverse, which changes no character but isn't
-- said here
abbrev pub obeys : Make → List ℕ → Screen → Screen
obeys make (a ∷ []) screen = obeys_byte make a screen
obeys make (a ∷ b ∷ []) screen = obeys_two a b screen
obeys make (a ∷ b ∷ n ∷ []) screen = not_known (a ∷ b ∷ n ∷ []) screen
obeys make (a ∷ b ∷ x ∷ y ∷ []) screen = cursor_set (a ∷ b ∷ x ∷ y ∷ []) (place_at make x y) screen
obeys make bytes screen = lost bytes screen

-- the bytes of a command so far: it is obeyed once it is whole
abbrev pub command_taken : Make → List ℕ → Screen → Screen
command_taken make bytes screen =
    if nat_le (size_of make.protocol bytes) (length bytes)
    then obeys make bytes (record screen { begun = [] })
    else record screen { begun = bytes }

-- one byte
abbrev pub takes : Make → Screen → ℕ → Screen
takes make screen b = command_taken make (screen.begun ++ b ∷ []) screen

-- a display after these bytes
abbrev pub screen_after : Make → Screen → List ℕ → Screen
screen_after make screen bytes = fold (takes make) screen bytes

-- it is known that a display shows these characters, and no command has begun
pub record IsShowing (characters : List ℕ) (screen : Screen) : Type 0 where
  pub shown : screen.characters ≡ characters
  pub known : screen.is_known ≡ true
  pub whole : screen.begun ≡ []

-- From the old display, whatever it showed, the new one shows these characters, and each command is known.
pub record ShowsOnly (old : Screen) (characters : List ℕ) (new : Screen) : Type 0 where
  pub shows : IsShowing characters new
  pub unknown : new.unknown ≡ old.unknown
