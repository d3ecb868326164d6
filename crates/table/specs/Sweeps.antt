-- The calls over many elements: retain, clear, disjoint (the rules, section "The dense table"). Assumes nothing.
use Rattle.std.specs.Prelude.{Bool, cond, List, [], ◌∷◌, ℕ, zero, suc, ◌+◌, leb, ltb, length}
use Rattle.lists.specs.Put.{put}
use Rattle.lists.specs.Among.{among}
use Rattle.keys.specs.Keys.{idx, version, as_read}
use Rattle.rules.specs.declared.Rule.{Rule}
use Rattle.rules.specs.Rules.{keeps_of}
use Rattle.table.specs.Table.{Table, key, val, has_shape}
use Rattle.table.specs.Calls.{Said, said_done, refused, Out, Judged, found, fails, place_in, remove, drain}
use Rattle.table.specs.Sound.{is_sound}

-- ---- retain and clear: "ask for a sound table, else 5"; they "answer only the new header"

abbrev pub asked : Table → Table → Out
asked t u = cond (has_shape t) (cond (is_sound t) (said_done, u) (refused 5, t)) (refused 1, t)

-- from place p on, at most m looks: an element that the rule keeps is passed; "a dropped element is removed and the same place looked at again"
unfoldable pub retaining : (ℕ → ℕ → Bool) → ℕ → ℕ → Table → Table
retaining keeps zero p t = t
retaining keeps (suc m) p t =
    cond (ltb p t.head.n)
    (cond (keeps (idx (key t p)) (val t p))
    (retaining keeps m (p + 1) t)
    (retaining keeps m p (remove t (key t p)).1))
    t

-- "walk from place 0": n looks, since each passes an element or removes one
unfoldable pub retain : Table → Rule → Out
retain t rule = asked t (retaining (keeps_of rule) t.head.n 0 t)

-- m drain steps
unfoldable pub clearing : ℕ → Table → Table
clearing zero t = t
clearing (suc m) t = clearing m (drain t).1

-- "clear is drain steps until done": n of them
unfoldable pub clear : Table → Out
clear t = asked t (clearing t.head.n t)

-- ---- disjoint

-- the places of a list of keys, or the refusal of the first bad one
pub data Places : Type 0 where
  places : List ℕ → Places
  bars : ℕ → Places

abbrev pub placed : Judged → Places → Places
placed (found p) (places ps) = places (p ∷ ps)
placed (found p) (bars r) = bars r
placed (fails r) rest = bars r

-- "judges keys in list order, each by 2 then 5"; 2 also where the key, as read, is among the earlier ones
unfoldable pub places_of : Table → List ℕ → List ℕ → Places
places_of t earlier [] = places []
places_of t earlier (k ∷ ks) =
    cond (among (as_read k) earlier) (bars 2)
    (placed (place_in t (idx k) (version k)) (places_of t (as_read k ∷ earlier) ks))

-- the places go into the output from its front on; "success doesn't touch output past the answer's end"; 6 comes last
abbrev pub given : Places → List ℕ → List ℕ → Said × List ℕ
given (places ps) ks out = cond (leb (length ks) (length out)) (said_done, put out 0 ps) (refused 6, out)
given (bars r) ks out = (refused r, out)

-- "a list of keys, all live and, as read, all different, gives their places in order; the empty list is accepted"
unfoldable pub disjoint : Table → List ℕ → List ℕ → Said × List ℕ
disjoint t ks out = cond (has_shape t) (given (places_of t [] ks) ks out) (refused 1, out)
