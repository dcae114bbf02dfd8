-- What is true of a course of calls.
use Rattle.pos_file.proofs.Common.{Bool, List, None, Option, Some, [], arith, false, inr, length, refl, subst, sym}
use Rattle.pos_file.proofs.Common.{true, ℕ, ◌++◌, ◌∷◌, ◌≡◌, ◌≤◌}
use Rattle.pos_disk.proofs.CallLemmas.{keeps, longer}
use Rattle.pos_disk.specs.Kept.{to_moment}
use Rattle.pos_disk.specs.Memory.{LeftSince, Memory, Moment, state_of, synced, written}
use Rattle.pos_file.specs.Calls.{Call, is_whole}
use Rattle.pos_file.specs.Courses.{CourseLeaves, CourseMakes, KindMakes, PutsDown, TakesAll}
use Rattle.pos_file.specs.declared.history.CallKind.{CallKind}
use Rattle.pos_file.specs.declared.history.CallKind.TheVariants.{Lock, Share, Measure, Read, Write, Sync}

-- one course after another
pub joined : (done rest : List Call) (old mid new : Memory) → CourseMakes done old mid → CourseMakes rest mid new
    → CourseMakes (done ++ rest) old new
joined [] rest old mid new same after = subst (λ (m : Memory). CourseMakes rest m new) same after
joined (call ∷ done) rest old mid new before after =
    let (first, made, more) = before in (first, made, joined done rest first mid new more after)

-- a course in two parts
pub parted : (done rest : List Call) (old new : Memory) → CourseMakes (done ++ rest) old new
    → (mid : Memory) × CourseMakes done old mid × CourseMakes rest mid new
parted [] rest old new made = (old, refl, made)
parted (call ∷ done) rest old new made =
    let (first, one, more) = made in let (mid, before, after) = parted done rest first new more in
    (mid, (first, one, before), after)

put_is_one : (whole : Bool) (at : ℕ) (bytes : List ℕ) (old new other : Memory) → whole ≡ true
    → PutsDown whole at bytes old new → PutsDown whole at bytes old other → new ≡ other
put_is_one true at bytes old new other is a b = cc
put_is_one false at bytes old new other is a b = cc

-- a call whose bytes were all taken leaves one disk
call_is_one : (kind : CallKind) (at : ℕ) (bytes : List ℕ) (answer : Option ℕ) (old new other : Memory)
    → (kind ≡ Write → is_whole (length bytes) answer ≡ true) → KindMakes kind at bytes answer old new
    → KindMakes kind at bytes answer old other → new ≡ other
call_is_one Lock at bytes answer old new other takes a b = cc
call_is_one Share at bytes answer old new other takes a b = cc
call_is_one Measure at bytes answer old new other takes a b = cc
call_is_one Read at bytes answer old new other takes a b = cc
call_is_one Write at bytes answer old new other takes a b =
    put_is_one (is_whole (length bytes) answer) at bytes old new other (takes refl) a b
call_is_one Sync at bytes (Some n) old new other takes a b = cc
call_is_one Sync at bytes None old new other takes a b = cc

pub is_one : (calls : List Call) (old new other : Memory) → TakesAll calls → CourseMakes calls old new
    → CourseMakes calls old other → new ≡ other
is_one [] old new other takes a b = cc
is_one (call ∷ calls) old new other takes a b =
    let (first, made, more) = a in let (second, makes, rest) = b in
    let same = call_is_one call.kind call.at call.bytes call.answer old first second takes.0 made makes in
    is_one calls first new other takes.1 more (subst (λ (m : Memory). CourseMakes calls m other) (sym same) rest)

-- what each change of a disk keeps, a course keeps
module _ (P : Memory → Type 0) (changed : (old : Memory) (next : Moment) (settled : List ℕ) → P old
    → P (record { present = next; settled = settled; past = old.past ++ old.present ∷ [] })) where
  put_keeps : (whole : Bool) (at : ℕ) (bytes : List ℕ) (old new : Memory) → PutsDown whole at bytes old new → P old
      → P new
  put_keeps true at bytes old new made has =
      subst P (sym made) (changed old (written at bytes old).present old.settled has)
  put_keeps false at bytes old new made has =
      let (put, same, is) = made in subst P (sym is) (changed old (written at put old).present old.settled has)

  call_keeps : (kind : CallKind) (at : ℕ) (bytes : List ℕ) (answer : Option ℕ) (old new : Memory)
      → KindMakes kind at bytes answer old new → P old → P new
  call_keeps Lock at bytes answer old new made has = subst P (sym made) has
  call_keeps Share at bytes answer old new made has = subst P (sym made) has
  call_keeps Measure at bytes answer old new made has = subst P (sym made) has
  call_keeps Read at bytes answer old new made has = subst P (sym made.1) has
  call_keeps Write at bytes answer old new made has =
      put_keeps (is_whole (length bytes) answer) at bytes old new made has
  call_keeps Sync at bytes (Some n) old new made has =
      subst P (sym made) (changed old (synced old).present old.present.reading has)
  call_keeps Sync at bytes None old new made has = subst P (sym made) has

  course_keeps : (calls : List Call) (old new : Memory) → CourseMakes calls old new → P old → P new
  course_keeps [] old new same has = subst P (sym same) has
  course_keeps (call ∷ calls) old new made has =
      let (mid, first, more) = made in
      course_keeps calls mid new more (call_keeps call.kind call.at call.bytes call.answer old mid first has)

-- a crash since a moment that has been might have left these bytes
abbrev IsLeft : ℕ → List ℕ → Memory → Type 0
IsLeft t bytes disk = (t ≤ length disk.past) × LeftSince disk.past disk.present t bytes

later : (t : ℕ) (old : Memory) (next : Moment) (settled : List ℕ) → t ≤ length old.past
    → t ≤ length (old.past ++ old.present ∷ [])
later t old next settled le = omega (arith, le, longer old.past old.present next)

-- what a crash at some moment of a course leaves, it might have left since the course began
pub left : (calls : List Call) (old new : Memory) (bytes : List ℕ) → CourseLeaves calls old new bytes
    → (state_of new).left_since (state_of old).moment bytes
left calls old new bytes leaves =
    let t = length old.past in let mid = leaves.mid in
    let grown : t ≤ length mid.past =
    course_keeps (λ m. t ≤ length m.past) (later t) leaves.done old mid leaves.before (omega arith) in
    (course_keeps (IsLeft t bytes)
    (λ was next settled has. (later t was next settled has.0, keeps was.past was.present next t bytes has.0 has.1))
    leaves.rest mid new leaves.after (grown, inr (to_moment mid bytes leaves.left))).1
