-- Lists of names, each once.
use Rattle.std.proofs.Common.{◌≡◌, ◌∙◌, ◌==◌, arith, ◌+◌, ◌<◌, ℕ, List, [], ◌∷◌, ◌++◌, Bool, true, false, cond, Option, Some, None, Result, Ok, Err, map, length, get_or, take, refl, sym, ap, option_to_list, BTreeSet, String, Global}
use Rattle.std.specs.Prelude.{◌||◌, unwrap_or}
use Rattle.std.specs.BTreeSet.{contains_text}
use Rattle.std.specs.Result.{OnOk}
use Rattle.std.specs.List.{filter_map, flat_map, list_any}
use Rattle.std.specs.Str.{bytes_eq}
use Rattle.std.proofs.lemmas.Grind.{flat_map-append}
use Rattle.std.proofs.lemmas.List.{append-nil}
use Rattle.std.proofs.lemmas.List.Folds.{list_any-append}
use Rattle.std.proofs.lemmas.Slice.Eq.{bytes_eq-Decides}
use Rattle.serde_json.specs.View.{view}
use Rattle.serde_json.specs.declared.value.Value.{Value}
use Rattle.gate_record.specs.EachOnce.{each_once}
use Rattle.gate_config.proofs.Attributes.{same_bytes}
use Rattle.gate_config.proofs.Each.{map_more}
use Rattle.gate_config.proofs.Picked.{filter_map_more}
use Rattle.gate_config.specs.Document.{name_in}
use Rattle.gate_config.specs.Inner.Jobs.{HasAll, with_job, with_jobs}

-- ---- one more name

either : (x y : Bool) → cond x true y ≡ (y || (x || false))
either true true = refl
either true false = refl
either false true = refl
either false false = refl

-- in a set and in a list of the same names
pub one_more : (names : List (List ℕ)) (job name : List ℕ) → cond (bytes_eq job name) true (list_any (bytes_eq name) names) ≡ list_any (bytes_eq name) (names ++ job ∷ [])
one_more names job name =
    either (bytes_eq job name) (list_any (bytes_eq name) names)
    ∙ ap (λ b. list_any (bytes_eq name) names || (b || false)) (same_bytes job name)
    ∙ sym (list_any-append (bytes_eq name) names (job ∷ []))

-- a set that has gained the name
pub has_one_more : (names : List (List ℕ)) (set next : BTreeSet (String Global)) (key name : List ℕ) → ((other : List ℕ) → contains_text next other ≡ cond (bytes_eq key other) true (contains_text set other)) → key ≡ name → HasAll names set → HasAll (names ++ name ∷ []) next
has_one_more names set next key name updated is has = λ other.
    updated other
    ∙ ap (λ b. cond (bytes_eq key other) true b) (has other)
    ∙ ap (λ k. cond (bytes_eq k other) true (list_any (bytes_eq other) names)) is
    ∙ one_more names name other

-- ---- several more names

with_jobs-append : (names xs ys : List (List ℕ)) → with_jobs names (xs ++ ys) ≡ with_jobs (with_jobs names xs) ys
with_jobs-append names [] ys = refl
with_jobs-append names (x ∷ xs) ys = with_jobs-append (with_job names x) xs ys

-- one more value, which gives a name or none
named : (items : List Value) (i : ℕ) (x : Value) (start : List (List ℕ)) (name : Option (List ℕ)) → i < length items → x ≡ get_or items i x → name ≡ name_in (view x) → with_jobs (with_jobs start (filter_map name_in (map view (take i items)))) (option_to_list name) ≡ with_jobs start (filter_map name_in (map view (take (i + 1) items)))
named items i x start name l e n =
    ap (λ o. with_jobs (with_jobs start (filter_map name_in (map view (take i items)))) (option_to_list o)) n
    ∙ sym (with_jobs-append start (filter_map name_in (map view (take i items))) (option_to_list (name_in (view x))))
    ∙ ap (with_jobs start) (sym (filter_map_more name_in view items i x l e))

pub job_some : (items : List Value) (i : ℕ) (x : Value) (start before after : List (List ℕ)) (name : List ℕ) → i < length items → x ≡ get_or items i x → before ≡ with_jobs start (filter_map name_in (map view (take i items))) → Some name ≡ name_in (view x) → after ≡ with_job before name → after ≡ with_jobs start (filter_map name_in (map view (take (i + 1) items)))
job_some items i x start before after name l e so_far n added =
    added ∙ ap (λ names. with_job names name) so_far ∙ named items i x start (Some name) l e n

pub job_none : (items : List Value) (i : ℕ) (x : Value) (start before : List (List ℕ)) → i < length items → x ≡ get_or items i x → before ≡ with_jobs start (filter_map name_in (map view (take i items))) → None ≡ name_in (view x) → before ≡ with_jobs start (filter_map name_in (map view (take (i + 1) items)))
job_none items i x start before l e so_far n = so_far ∙ named items i x start None l e n

-- one more stanza
pub stanza_more : {X A : Type 0} (jobs : A → List (List ℕ)) (v : X → A) (items : List X) (i : ℕ) (x : X) (before after : List (List ℕ)) → i < length items → x ≡ get_or items i x → before ≡ each_once bytes_eq (flat_map jobs (map v (take i items))) → after ≡ with_jobs before (jobs (v x)) → after ≡ each_once bytes_eq (flat_map jobs (map v (take (i + 1) items)))
stanza_more jobs v items i x before after l e so_far added =
    added ∙ ap (λ names. with_jobs names (jobs (v x))) so_far
    ∙ sym (with_jobs-append [] (flat_map jobs (map v (take i items))) (jobs (v x)))
    ∙ ap (each_once bytes_eq) (sym (ap (flat_map jobs) (map_more v items i x l e) ∙ flat_map-append jobs (map v (take i items)) (v x ∷ [])
    ∙ ap (λ rest. flat_map jobs (map v (take i items)) ++ rest) (append-nil (jobs (v x)))))

-- ---- the jobs of projects

added_by : (at : List ℕ → Option (List (List ℕ))) (project other : List ℕ) (names list : List (List ℕ)) (b : Bool) → bytes_eq project other ≡ b → list ≡ with_jobs (unwrap_or (at project) []) names → unwrap_or (cond b (Some list) (at other)) [] ≡ with_jobs (unwrap_or (at other) []) (cond b names [])
added_by at project other names list true e h = h ∙ ap (λ p. with_jobs (unwrap_or (at p) []) names) ((bytes_eq-Decides project other).0 e)
added_by at project other names list false e h = refl

-- no names are added to any list
pub none_added : (items : List Value) (names : List (List ℕ)) (b : Bool) → (length items == 0) ≡ true → names ≡ with_jobs names (cond b (filter_map name_in (map view items)) [])
none_added [] names true e = refl
none_added [] names false e = refl
none_added (x ∷ items) names b e = absurd (grind (arith, e))

-- the list of one project is changed, by one more names
pub added : (at next : List ℕ → Option (List (List ℕ))) (project : List ℕ) (names list : List (List ℕ)) → ((other : List ℕ) → next other ≡ cond (bytes_eq project other) (Some list) (at other)) → list ≡ with_jobs (unwrap_or (at project) []) names → (other : List ℕ) → unwrap_or (next other) [] ≡ with_jobs (unwrap_or (at other) []) (cond (bytes_eq project other) names [])
added at next project names list changed h other =
    ap (λ o. unwrap_or o []) (changed other) ∙ added_by at project other names list (bytes_eq project other) refl h

-- where it went well
pub on_ok : {T E P Q : Type 0} (r : Result T E) → (P → Q) → OnOk r P → OnOk r Q
on_ok (Ok x) f h = f h
on_ok (Err e) f h = tt
