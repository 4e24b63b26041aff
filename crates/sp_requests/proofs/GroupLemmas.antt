use Rattle.std.proofs.Common.{◌≡◌, ℕ, suc, ◌<◌, ◌⊎◌, inl, inr, Bool, true, false, cond, List, [], ◌∷◌, ◌++◌, length, Option, None, Some, filter, map, nat_eq, refl, sym, ap, subst, ◌∙◌, true≢false, arith, Vec, Global}
use Rattle.std.specs.Prelude.{◌&&◌, ◌==◌, ◌^◌, not, find, option_and_then}
use Rattle.std.specs.Cmp.{nat_eq_equiv}
use Rattle.std.specs.List.{flat_map}
use Rattle.std.specs.Map.{keys_of, lookup, remove_entry}
use Rattle.std.proofs.lemmas.Bool.{eqb-true, eq-eqb, ne_eqb}
use Rattle.std.proofs.lemmas.List.{append-nil, map-append}
use Rattle.net_message.specs.declared.message.Message.{Message}
use Rattle.dgc_client.specs.declared.groups.Group.{Group}
use Rattle.dgc_client.specs.declared.lease.Due.{Due}
use Rattle.dgc_client.specs.declared.lease.Due.TheVariants as due
use Rattle.space_ids.specs.declared.ids.ObjId.{ObjId}
use Rattle.uuid.specs.declared.Uuid.{Uuid}
use Rattle.rising_map.specs.Rows.{AreAbove, AreBelow, AreRows, Rises}
use Rattle.sp_rules.proofs.AllLemmas.{all-filter, all-more}
use Rattle.sp_rules.specs.Endings.{call_number_in}
use Rattle.sp_rules.specs.Frames.{has_sequence, is_dirty_kind, tells_of, tells_on}
use Rattle.sp_rules.specs.Laws.{AllOf}
use Rattle.sp_rules.specs.ParkedFrames.{is_unanswered_on}
use Rattle.sp_rules.specs.Requests.{group_frame, is_waiting}
use Rattle.sp_rules.specs.State as rules
use Rattle.sp_requests.specs.declared.requests.Requests.{Requests}
use Rattle.sp_requests.specs.declared.asked.Asked.{Asked}
use Rattle.sp_requests.specs.declared.asked.Asker.{Asker}
use Rattle.sp_requests.specs.declared.asked.OutGroup.{OutGroup}
use Rattle.sp_requests.specs.Asking.{AreRequests, IsNamed, IsOfCall, IsOn, asked_of, asks_by, call_at, call_row, calls_in, first_of, group_at, group_row, groups_in, last_sequence, newest, number_of, out_row, sequence_in, sequence_of, told, waiting_in}
use Rattle.sp_requests.proofs.AskingLemmas.{all-of, and-false, below-removed, filter-filter, flat-filter, flat-more, none-gone}
use Rattle.sp_requests.proofs.FrameLemmas.{below-last, below-more, calls-sent, keys-append, no-call-last, of-none, still-sent, waiting-more}

-- whether these are dirty calls, or clean calls
abbrev pub is_kind : Bool → OutGroup → Bool
is_kind dirty g = cond dirty (is_dirty_kind g.group.kind) (not (is_dirty_kind g.group.kind))

-- ---- one request

-- dirty or clean calls that are out
record IsGroup (conn : ℕ) (stage : rules.Stage) (question : rules.Asked) : Type 0 where
  sequence : ℕ
  group : OutGroup
  row : group_at stage question ≡ (sequence, group) ∷ []
  is : (dirty : Bool) (n : ℕ) → (is_unanswered_on conn stage && (has_sequence n stage && tells_of dirty question)) ≡ (sequence == n && is_kind dirty group)

record IsNoGroup (conn : ℕ) (stage : rules.Stage) (question : rules.Asked) : Type 0 where
  row : group_at stage question ≡ []
  is : (dirty : Bool) (n : ℕ) → (is_unanswered_on conn stage && (has_sequence n stage && tells_of dirty question)) ≡ false

group-cases : (conn : ℕ) (stage : rules.Stage) (question : rules.Asked) → IsOn conn stage → IsGroup conn stage question ⊎ IsNoGroup conn stage question
group-cases conn rules.Waits question on = inr (record { row = refl; is = λ dirty n. refl })
group-cases conn (rules.Out c sequence) (rules.Calls number task lent kind m) on = inr (record { row = refl; is = λ dirty n. ap (λ b. (c == conn) && b) (and-false (sequence == n)) ∙ and-false (c == conn) })
group-cases conn (rules.Out c sequence) (rules.LooksUp number task name) on = inr (record { row = refl; is = λ dirty n. ap (λ b. (c == conn) && b) (and-false (sequence == n)) ∙ and-false (c == conn) })
group-cases conn (rules.Out c sequence) (rules.Tells call group) on = inl (record { sequence = sequence; group = _; row = refl; is = λ dirty n. ap (λ b. b && (sequence == n && tells_of dirty (rules.Tells call group))) (eq-eqb c conn on) })
group-cases conn (rules.Answered c) question on = inr (record { row = refl; is = λ dirty n. refl })

no-call : (conn n : ℕ) (dirty : Bool) (sent : List Message) (stage : rules.Stage) (question : rules.Asked) → (is_unanswered_on conn stage && (has_sequence n stage && tells_of dirty question)) ≡ true → call_at sent stage question ≡ []
no-call conn n dirty sent rules.Waits question e = refl
no-call conn n dirty sent (rules.Out c sequence) (rules.Calls number task lent kind m) e = absurd (true≢false (sym e ∙ ap (λ b. (c == conn) && b) (and-false (sequence == n)) ∙ and-false (c == conn)))
no-call conn n dirty sent (rules.Out c sequence) (rules.LooksUp number task name) e = absurd (true≢false (sym e ∙ ap (λ b. (c == conn) && b) (and-false (sequence == n)) ∙ and-false (c == conn)))
no-call conn n dirty sent (rules.Out c sequence) (rules.Tells call group) e = refl
no-call conn n dirty sent (rules.Answered c) question e = absurd (true≢false (sym e))

no-wait : (conn n : ℕ) (dirty : Bool) (stage : rules.Stage) (question : rules.Asked) → (is_unanswered_on conn stage && (has_sequence n stage && tells_of dirty question)) ≡ true → is_waiting stage ≡ false
no-wait conn n dirty rules.Waits question e = absurd (true≢false (sym e))
no-wait conn n dirty (rules.Out c sequence) question e = refl
no-wait conn n dirty (rules.Answered c) question e = refl

-- ---- groups that are found and go

none-above : (conn n : ℕ) (dirty : Bool) (rows : List rules.Request) → AllOf (λ (r : rules.Request). IsOn conn r.stage) rows → AreAbove n (keys_of (groups_in rows)) → AllOf (λ (r : rules.Request). tells_on dirty conn n r ≡ false) rows
none-above conn n dirty [] on above = tt
none-above conn n dirty (r ∷ rs) on above = pick (group-cases conn r.stage r.asked on.0) (λ a. none-above conn n dirty rs on.1 a)
  where
    pick : IsGroup conn r.stage r.asked ⊎ IsNoGroup conn r.stage r.asked → (AreAbove n (keys_of (groups_in rs)) → AllOf (λ (x : rules.Request). tells_on dirty conn n x ≡ false) rs) → AllOf (λ (x : rules.Request). tells_on dirty conn n x ≡ false) (r ∷ rs)
    pick (inl c) go =
        let a = subst (λ (l : List (ℕ × OutGroup)). AreAbove n (keys_of (l ++ groups_in rs))) c.row above in
        let low : n < c.sequence = a.0 in (c.is dirty n ∙ ap (λ b. b && is_kind dirty c.group) (ne_eqb c.sequence n (λ same. omega (arith, low, same))), go a.1)
    pick (inr c) go = (c.is dirty n, go (subst (λ (l : List (ℕ × OutGroup)). AreAbove n (keys_of (l ++ groups_in rs))) c.row above))

-- no group of the number and kind is out
pub none-told : (conn n : ℕ) (dirty : Bool) (rows : List rules.Request) → AllOf (λ (r : rules.Request). IsOn conn r.stage) rows → Rises (keys_of (groups_in rows))
    → ((g : OutGroup) → lookup (nat_eq n) (groups_in rows) ≡ Some g → is_kind dirty g ≡ false) → AllOf (λ (r : rules.Request). tells_on dirty conn n r ≡ false) rows
none-told conn n dirty [] on rises other = tt
none-told conn n dirty (r ∷ rs) on rises other = pick (group-cases conn r.stage r.asked on.0) (λ a f. none-told conn n dirty rs on.1 a f)
  where
    rest : List (ℕ × OutGroup)
    rest = groups_in rs

    at : (k : ℕ) (g : OutGroup) → (b : Bool) → (k == n) ≡ b → Rises (keys_of ((k, g) ∷ rest)) → ((h : OutGroup) → cond b (Some g) (lookup (nat_eq n) rest) ≡ Some h → is_kind dirty h ≡ false)
        → (Rises (keys_of rest) → ((h : OutGroup) → lookup (nat_eq n) rest ≡ Some h → is_kind dirty h ≡ false) → AllOf (λ (x : rules.Request). tells_on dirty conn n x ≡ false) rs)
        → ((b && is_kind dirty g) ≡ false) × AllOf (λ (x : rules.Request). tells_on dirty conn n x ≡ false) rs
    at k g true e up f go = (f g refl, none-above conn n dirty rs on.1 (subst (λ (m : ℕ). AreAbove m (keys_of rest)) (eqb-true k n e) up.0))
    at k g false e up f go = (refl, go up.1 f)

    pick : IsGroup conn r.stage r.asked ⊎ IsNoGroup conn r.stage r.asked
        → (Rises (keys_of rest) → ((h : OutGroup) → lookup (nat_eq n) rest ≡ Some h → is_kind dirty h ≡ false) → AllOf (λ (x : rules.Request). tells_on dirty conn n x ≡ false) rs)
        → AllOf (λ (x : rules.Request). tells_on dirty conn n x ≡ false) (r ∷ rs)
    pick (inl c) go =
        let up = subst (λ (l : List (ℕ × OutGroup)). Rises (keys_of (l ++ rest))) c.row rises in
        let f : (h : OutGroup) → cond (c.sequence == n) (Some c.group) (lookup (nat_eq n) rest) ≡ Some h → is_kind dirty h ≡ false =
        λ h e. other h (ap (λ l. lookup (nat_eq n) (l ++ rest)) c.row ∙ ap (λ b. cond b (Some c.group) (lookup (nat_eq n) rest)) (nat_eq_equiv.symm n c.sequence) ∙ e) in
        let both = at c.sequence c.group (c.sequence == n) refl up f go in (c.is dirty n ∙ both.0, both.1)
    pick (inr c) go =
        (c.is dirty n, go (subst (λ (l : List (ℕ × OutGroup)). Rises (keys_of (l ++ rest))) c.row rises) (λ h e. other h (ap (λ l. lookup (nat_eq n) (l ++ rest)) c.row ∙ e)))

none-finds : {A : Type 0} (p : A → Bool) (xs : List A) → AllOf (λ (x : A). p x ≡ false) xs → find p xs ≡ None
none-finds p [] a = refl
none-finds p (x ∷ xs) a = ap (λ b. cond b (Some x) (find p xs)) a.0 ∙ none-finds p xs a.1

pub not-found : (conn n : ℕ) (dirty : Bool) (rows : List rules.Request) → AllOf (λ (r : rules.Request). IsOn conn r.stage) rows → Rises (keys_of (groups_in rows))
    → ((g : OutGroup) → lookup (nat_eq n) (groups_in rows) ≡ Some g → is_kind dirty g ≡ false) → None ≡ option_and_then told (find (tells_on dirty conn n) rows)
not-found conn n dirty rows on rises other = sym (ap (option_and_then told) (none-finds (tells_on dirty conn n) rows (none-told conn n dirty rows on rises other)))

pub found-group : (conn n : ℕ) (dirty : Bool) (rows : List rules.Request) (g : OutGroup) → AllOf (λ (r : rules.Request). IsOn conn r.stage) rows → lookup (nat_eq n) (groups_in rows) ≡ Some g → is_kind dirty g ≡ true
    → Some g ≡ option_and_then told (find (tells_on dirty conn n) rows)
found-group conn n dirty [] g on found kind = cc
found-group conn n dirty (r ∷ rs) g on found kind = pick (group-cases conn r.stage r.asked on.0) (λ f. found-group conn n dirty rs g on.1 f kind)
  where
    rest : List (ℕ × OutGroup)
    rest = groups_in rs

    others : Option rules.Request
    others = find (tells_on dirty conn n) rs

    at : (k : ℕ) (h : OutGroup) → group_row r ≡ (k, h) ∷ [] → (b : Bool) → cond b (Some h) (lookup (nat_eq n) rest) ≡ Some g → (lookup (nat_eq n) rest ≡ Some g → Some g ≡ option_and_then told others)
        → Some g ≡ option_and_then told (cond (b && is_kind dirty h) (Some r) others)
    at k h row true f go =
        let same : h ≡ g = cc in
        sym f ∙ sym (ap first_of row) ∙ sym (ap (λ b. option_and_then told (cond b (Some r) others)) (ap (is_kind dirty) same ∙ kind))
    at k h row false f go = go f

    pick : IsGroup conn r.stage r.asked ⊎ IsNoGroup conn r.stage r.asked → (lookup (nat_eq n) rest ≡ Some g → Some g ≡ option_and_then told others) → Some g ≡ option_and_then told (cond (tells_on dirty conn n r) (Some r) others)
    pick (inl c) go =
        at c.sequence c.group c.row (c.sequence == n) (ap (λ b. cond b (Some c.group) (lookup (nat_eq n) rest)) (sym (nat_eq_equiv.symm n c.sequence)) ∙ sym (ap (λ l. lookup (nat_eq n) (l ++ rest)) c.row) ∙ found) go
        ∙ sym (ap (λ b. option_and_then told (cond b (Some r) others)) (c.is dirty n))
    pick (inr c) go = go (sym (ap (λ l. lookup (nat_eq n) (l ++ rest)) c.row) ∙ found) ∙ sym (ap (λ b. option_and_then told (cond b (Some r) others)) (c.is dirty n))

gone-group : (conn n : ℕ) (dirty : Bool) (rows : List rules.Request) (g : OutGroup) → AllOf (λ (r : rules.Request). IsOn conn r.stage) rows → Rises (keys_of (groups_in rows)) → lookup (nat_eq n) (groups_in rows) ≡ Some g → is_kind dirty g ≡ true
    → groups_in (filter (λ (r : rules.Request). not (tells_on dirty conn n r)) rows) ≡ remove_entry (nat_eq n) (groups_in rows)
gone-group conn n dirty [] g on rises found kind = refl
gone-group conn n dirty (r ∷ rs) g on rises found kind = pick (group-cases conn r.stage r.asked on.0) (λ a f. gone-group conn n dirty rs g on.1 a f kind)
  where
    left : List rules.Request
    left = filter (λ (x : rules.Request). not (tells_on dirty conn n x)) rs

    rest : List (ℕ × OutGroup)
    rest = groups_in rs

    at : (k : ℕ) (h : OutGroup) → group_row r ≡ (k, h) ∷ [] → Rises (keys_of ((k, h) ∷ rest)) → (b : Bool) → (k == n) ≡ b → cond b (Some h) (lookup (nat_eq n) rest) ≡ Some g
        → (Rises (keys_of rest) → lookup (nat_eq n) rest ≡ Some g → groups_in left ≡ remove_entry (nat_eq n) rest)
        → groups_in (cond (not (b && is_kind dirty h)) (r ∷ left) left) ≡ cond b rest ((k, h) ∷ remove_entry (nat_eq n) rest)
    at k h row up true e f go =
        let same : h ≡ g = cc in
        ap (λ b. groups_in (cond (not b) (r ∷ left) left)) (ap (is_kind dirty) same ∙ kind)
        ∙ ap groups_in (none-gone (tells_on dirty conn n) rs (none-above conn n dirty rs on.1 (subst (λ (m : ℕ). AreAbove m (keys_of rest)) (eqb-true k n e) up.0)))
    at k h row up false e f go = let tail = go up.1 f in λ j. row j ++ tail j

    pick : IsGroup conn r.stage r.asked ⊎ IsNoGroup conn r.stage r.asked → (Rises (keys_of rest) → lookup (nat_eq n) rest ≡ Some g → groups_in left ≡ remove_entry (nat_eq n) rest)
        → groups_in (cond (not (tells_on dirty conn n r)) (r ∷ left) left) ≡ remove_entry (nat_eq n) (group_row r ++ rest)
    pick (inl c) go =
        let up = subst (λ (l : List (ℕ × OutGroup)). Rises (keys_of (l ++ rest))) c.row rises in
        let f : cond (c.sequence == n) (Some c.group) (lookup (nat_eq n) rest) ≡ Some g =
        ap (λ b. cond b (Some c.group) (lookup (nat_eq n) rest)) (sym (nat_eq_equiv.symm n c.sequence)) ∙ sym (ap (λ l. lookup (nat_eq n) (l ++ rest)) c.row) ∙ found in
        ap (λ b. groups_in (cond (not b) (r ∷ left) left)) (c.is dirty n) ∙ at c.sequence c.group c.row up (c.sequence == n) refl f go
        ∙ ap (λ b. cond b rest ((c.sequence, c.group) ∷ remove_entry (nat_eq n) rest)) (sym (nat_eq_equiv.symm n c.sequence))
        ∙ sym (ap (λ l. remove_entry (nat_eq n) (l ++ rest)) c.row)
    pick (inr c) go =
        let up = subst (λ (l : List (ℕ × OutGroup)). Rises (keys_of (l ++ rest))) c.row rises in
        let tail = go up (sym (ap (λ l. lookup (nat_eq n) (l ++ rest)) c.row) ∙ found) in
        ap (λ b. groups_in (cond (not b) (r ∷ left) left)) (c.is dirty n) ∙ (λ j. c.row j ++ tail j) ∙ sym (ap (λ l. remove_entry (nat_eq n) (l ++ rest)) c.row)

-- ---- tables

pub take-group : (conn n : ℕ) (dirty : Bool) (rows : List rules.Request) (sent : List Message) (g : OutGroup) (old new : Requests) → new ≡ record old { groups = new.groups } → AreRows (remove_entry (nat_eq n) (groups_in rows)) new.groups
    → lookup (nat_eq n) (groups_in rows) ≡ Some g → is_kind dirty g ≡ true → AreRequests conn rows sent old → AreRequests conn (filter (λ (r : rules.Request). not (tells_on dirty conn n r)) rows) sent new
take-group conn n dirty rows sent g old new others groups found kind a =
    let left = filter (λ (r : rules.Request). not (tells_on dirty conn n r)) rows in
    let gone = gone-group conn n dirty rows g a.on a.groups.rises found kind in
    let calls : calls_in sent left ≡ calls_in sent rows = flat-filter (call_row sent) (tells_on dirty conn n) rows (all-of rows (λ r e. no-call conn n dirty sent r.stage r.asked e)) in
    let cs : new.calls ≡ old.calls = ap (λ (t : Requests). t.calls) others in record {
      on = all-filter (λ (r : rules.Request). IsOn conn r.stage) (λ (r : rules.Request). not (tells_on dirty conn n r)) rows a.on;
      answered = all-filter (λ (x : rules.Request). IsOfCall x.stage x.asked) (λ (r : rules.Request). not (tells_on dirty conn n r)) rows a.answered;
      named = all-filter (λ (x : rules.Request). IsNamed x.asked) (λ (r : rules.Request). not (tells_on dirty conn n r)) rows a.named;
      waiting = ap (λ (t : Requests). map asked_of t.waiting.items) others ∙ a.waiting
          ∙ sym (ap (map (λ (r : rules.Request). r.asked)) (filter-filter (λ (r : rules.Request). is_waiting r.stage) (tells_on dirty conn n) rows (all-of rows (λ r e. no-wait conn n dirty r.stage r.asked e))));
      calls = rw (calls, cs) a.calls;
      groups = subst (λ (l : List (ℕ × OutGroup)). AreRows l new.groups) (sym gone) groups;
      were_sent = rw (calls) a.were_sent;
      frames = ap (λ (t : Requests). t.frames) others ∙ a.frames;
      called = rw (calls) a.called;
      told_of = rw (gone) (below-removed (suc (last_sequence sent)) n (groups_in rows) a.told_of);
      call_fits = a.call_fits;
      sequence_fits = a.sequence_fits;
      few = rw (calls) a.few;
    }

pub leave-group : (conn n : ℕ) (dirty : Bool) (rows : List rules.Request) (sent : List Message) (old : Requests) → ((g : OutGroup) → lookup (nat_eq n) (groups_in rows) ≡ Some g → is_kind dirty g ≡ false) → AreRequests conn rows sent old
    → AreRequests conn (filter (λ (r : rules.Request). not (tells_on dirty conn n r)) rows) sent old
leave-group conn n dirty rows sent old other a = subst (λ (l : List rules.Request). AreRequests conn l sent old) (sym (none-gone (tells_on dirty conn n) rows (none-told conn n dirty rows a.on a.groups.rises other))) a

-- the frame of a group is no call's, and has its sequence number
no-call-frame : (kind : Due) (sequence : ℕ) (ids : List ObjId) → call_number_in (group_frame kind sequence ids) ≡ []
no-call-frame due.Dirty sequence ids = refl
no-call-frame (due.Clean strong) sequence ids = refl

group-sequence : (kind : Due) (sequence : ℕ) (ids : List ObjId) → sequence_in (group_frame kind sequence ids) ≡ sequence ∷ []
group-sequence due.Dirty sequence ids = refl
group-sequence (due.Clean strong) sequence ids = refl

-- a group goes out
pub group-sent : (conn sequence call : ℕ) (group : Group) (rows : List rules.Request) (sent : List Message) (peer : Uuid) (old new : Requests) → new.waiting ≡ old.waiting → new.calls ≡ old.calls → new.frames ≡ suc (length sent)
    → sequence < 2 ^ 64 → last_sequence sent < sequence → (AreBelow sequence (keys_of (groups_in rows)) → AreRows (groups_in rows ++ (sequence, record { call = call; group = group }) ∷ []) new.groups)
    → AreRequests conn rows sent old → AreRequests conn (rows ++ record { peer = peer; asked = rules.Tells call group; stage = rules.Out conn sequence } ∷ []) (group_frame group.kind sequence group.ids ∷ sent) new
group-sent conn sequence call group rows sent peer old new waiting cs frames small above pushed a =
    let m = group_frame group.kind sequence group.ids in
    let none = no-call-frame group.kind sequence group.ids in
    let lc = no-call-last m sent none in
    let ls : last_sequence (m ∷ sent) ≡ sequence = ap (λ (l : List ℕ). newest (l ++ flat_map sequence_in sent)) (group-sequence group.kind sequence group.ids) in
    let r : rules.Request = record { peer = peer; asked = rules.Tells call group; stage = rules.Out conn sequence } in
    let row : ℕ × OutGroup = (sequence, record { call = call; group = group }) in
    let below : AreBelow sequence (keys_of (groups_in rows)) = below-more (suc (last_sequence sent)) sequence (keys_of (groups_in rows)) (omega (arith, above)) a.told_of in
    let same : calls_in (m ∷ sent) (rows ++ r ∷ []) ≡ calls_in sent rows = flat-more (call_row (m ∷ sent)) rows r ∙ append-nil (calls_in (m ∷ sent) rows) ∙ calls-sent m sent rows (of-none m (keys_of (calls_in sent rows)) none) in
    let told : groups_in (rows ++ r ∷ []) ≡ groups_in rows ++ row ∷ [] = flat-more group_row rows r in record {
      on = all-more (λ (x : rules.Request). IsOn conn x.stage) rows r a.on refl;
      answered = all-more (λ (x : rules.Request). IsOfCall x.stage x.asked) rows r a.answered tt;
      named = all-more (λ (x : rules.Request). IsNamed x.asked) rows r a.named tt;
      waiting = ap (λ (w : Vec Asked Global). map asked_of w.items) waiting ∙ a.waiting ∙ sym (waiting-more rows r refl);
      calls = rw (same, cs) a.calls;
      groups = rw (told) (pushed below);
      were_sent = rw (same) (still-sent m sent (calls_in sent rows) a.were_sent);
      frames = frames;
      called = rw (same, lc) a.called;
      told_of = rw (told, ls, keys-append (groups_in rows) (row ∷ [])) (below-last (suc sequence) sequence (keys_of (groups_in rows)) (below-more sequence (suc sequence) (keys_of (groups_in rows)) (omega arith) below) (omega arith));
      call_fits = rw (lc) a.call_fits;
      sequence_fits = rw (ls) small;
      few = rw (same, lc, ls) (omega (arith, a.few, above));
    }

-- ---- what waits

waits-more : (rows : List rules.Request) (r : rules.Request) → is_waiting r.stage ≡ true → waiting_in (rows ++ r ∷ []) ≡ waiting_in rows ++ r.asked ∷ []
waits-more [] r e = ap (λ b. map (λ (x : rules.Request). x.asked) (cond b (r ∷ []) [])) e
waits-more (x ∷ xs) r e = pick (is_waiting x.stage) (waits-more xs r e)
  where
    among : List rules.Request → List rules.Request
    among l = filter (λ (y : rules.Request). is_waiting y.stage) l

    asked : List rules.Request → List rules.Asked
    asked l = map (λ (y : rules.Request). y.asked) l

    pick : (b : Bool) → asked (among (xs ++ r ∷ [])) ≡ asked (among xs) ++ r.asked ∷ [] → asked (cond b (x ∷ among (xs ++ r ∷ [])) (among (xs ++ r ∷ []))) ≡ asked (cond b (x ∷ among xs) (among xs)) ++ r.asked ∷ []
    pick true go = ap (λ l. x.asked ∷ l) go
    pick false go = go

pub wait-more : (conn : ℕ) (rows : List rules.Request) (sent : List Message) (peer : Uuid) (item : Asked) (old new : Requests) → new ≡ record old { waiting = new.waiting } → new.waiting.items ≡ old.waiting.items ++ item ∷ [] → IsNamed (asked_of item) → AreRequests conn rows sent old
    → AreRequests conn (rows ++ record { peer = peer; asked = asked_of item; stage = rules.Waits } ∷ []) sent new
wait-more conn rows sent peer item old new others items named a =
    let r : rules.Request = record { peer = peer; asked = asked_of item; stage = rules.Waits } in
    let calls : calls_in sent (rows ++ r ∷ []) ≡ calls_in sent rows = flat-more (call_row sent) rows r ∙ append-nil (calls_in sent rows) in
    let told : groups_in (rows ++ r ∷ []) ≡ groups_in rows = flat-more group_row rows r ∙ append-nil (groups_in rows) in
    let cs : new.calls ≡ old.calls = ap (λ (t : Requests). t.calls) others in
    let gs : new.groups ≡ old.groups = ap (λ (t : Requests). t.groups) others in record {
      on = all-more (λ (x : rules.Request). IsOn conn x.stage) rows r a.on tt;
      answered = all-more (λ (x : rules.Request). IsOfCall x.stage x.asked) rows r a.answered tt;
      named = all-more (λ (x : rules.Request). IsNamed x.asked) rows r a.named named;
      waiting = ap (map asked_of) items ∙ map-append asked_of old.waiting.items (item ∷ []) ∙ ap (λ l. l ++ asked_of item ∷ []) a.waiting ∙ sym (waits-more rows r refl);
      calls = rw (calls, cs) a.calls;
      groups = rw (told, gs) a.groups;
      were_sent = rw (calls) a.were_sent;
      frames = ap (λ (t : Requests). t.frames) others ∙ a.frames;
      called = rw (calls) a.called;
      told_of = rw (told) a.told_of;
      call_fits = a.call_fits;
      sequence_fits = a.sequence_fits;
      few = rw (calls) a.few;
    }

waits-no-call : (sent : List Message) (stage : rules.Stage) (question : rules.Asked) → is_waiting stage ≡ true → call_at sent stage question ≡ []
waits-no-call sent rules.Waits question e = refl
waits-no-call sent (rules.Out c sequence) question e = absurd (true≢false (sym e))
waits-no-call sent (rules.Answered c) question e = absurd (true≢false (sym e))

waits-no-group : (stage : rules.Stage) (question : rules.Asked) → is_waiting stage ≡ true → group_at stage question ≡ []
waits-no-group rules.Waits question e = refl
waits-no-group (rules.Out c sequence) question e = absurd (true≢false (sym e))
waits-no-group (rules.Answered c) question e = refl

none-waits : (rows : List rules.Request) → waiting_in (filter (λ (r : rules.Request). not (is_waiting r.stage)) rows) ≡ []
none-waits [] = refl
none-waits (r ∷ rs) = pick (is_waiting r.stage) refl (none-waits rs)
  where
    left : List rules.Request
    left = filter (λ (x : rules.Request). not (is_waiting x.stage)) rs

    pick : (b : Bool) → is_waiting r.stage ≡ b → waiting_in left ≡ [] → waiting_in (cond (not b) (r ∷ left) left) ≡ []
    pick true e go = go
    pick false e go = ap (λ b. map (λ (x : rules.Request). x.asked) (cond b (r ∷ filter (λ (x : rules.Request). is_waiting x.stage) left) (filter (λ (x : rules.Request). is_waiting x.stage) left))) e ∙ go

pub take-waiting : (conn : ℕ) (rows : List rules.Request) (sent : List Message) (old new : Requests) → new ≡ record old { waiting = new.waiting } → new.waiting.items ≡ [] → AreRequests conn rows sent old
    → AreRequests conn (filter (λ (r : rules.Request). not (is_waiting r.stage)) rows) sent new
take-waiting conn rows sent old new others items a =
    let left = filter (λ (r : rules.Request). not (is_waiting r.stage)) rows in
    let calls : calls_in sent left ≡ calls_in sent rows = flat-filter (call_row sent) (λ (r : rules.Request). is_waiting r.stage) rows (all-of rows (λ r e. waits-no-call sent r.stage r.asked e)) in
    let told : groups_in left ≡ groups_in rows = flat-filter group_row (λ (r : rules.Request). is_waiting r.stage) rows (all-of rows (λ r e. waits-no-group r.stage r.asked e)) in
    let cs : new.calls ≡ old.calls = ap (λ (t : Requests). t.calls) others in
    let gs : new.groups ≡ old.groups = ap (λ (t : Requests). t.groups) others in record {
      on = all-filter (λ (r : rules.Request). IsOn conn r.stage) (λ (r : rules.Request). not (is_waiting r.stage)) rows a.on;
      answered = all-filter (λ (x : rules.Request). IsOfCall x.stage x.asked) (λ (r : rules.Request). not (is_waiting r.stage)) rows a.answered;
      named = all-filter (λ (x : rules.Request). IsNamed x.asked) (λ (r : rules.Request). not (is_waiting r.stage)) rows a.named;
      waiting = ap (map asked_of) items ∙ sym (none-waits rows);
      calls = rw (calls, cs) a.calls;
      groups = rw (told, gs) a.groups;
      were_sent = rw (calls) a.were_sent;
      frames = ap (λ (t : Requests). t.frames) others ∙ a.frames;
      called = rw (calls) a.called;
      told_of = rw (told) a.told_of;
      call_fits = a.call_fits;
      sequence_fits = a.sequence_fits;
      few = rw (calls) a.few;
    }

-- ---- numbers

row-numbers : (sent : List Message) (answered : Bool) (askers : List (ℕ × Asker)) → keys_of (map (out_row sent answered) askers) ≡ keys_of (map (out_row [] answered) askers)
row-numbers sent answered [] = refl
row-numbers sent answered (x ∷ xs) = ap (λ (l : List ℕ). x.0 ∷ l) (row-numbers sent answered xs)

numbers-at : (sent : List Message) (stage : rules.Stage) (question : rules.Asked) → keys_of (call_at sent stage question) ≡ keys_of (call_at [] stage question)
numbers-at sent rules.Waits question = refl
numbers-at sent (rules.Out c sequence) question = row-numbers sent false (asks_by question)
numbers-at sent (rules.Answered c) question = row-numbers sent true (asks_by question)

pub call-numbers : (sent : List Message) (rows : List rules.Request) → keys_of (calls_in sent rows) ≡ flat_map number_of rows
call-numbers sent [] = refl
call-numbers sent (r ∷ rs) = let first = numbers-at sent r.stage r.asked in let rest = call-numbers sent rs in keys-append (call_row sent r) (calls_in sent rs) ∙ (λ j. first j ++ rest j)

pub sequence-numbers : (rows : List rules.Request) → keys_of (groups_in rows) ≡ flat_map sequence_of rows
sequence-numbers [] = refl
sequence-numbers (r ∷ rs) = keys-append (group_row r) (groups_in rs) ∙ ap (λ l. keys_of (group_row r) ++ l) (sequence-numbers rs)

-- each call that waits has a frame of its number
pub waiting-named : (rows : List rules.Request) (asked : List rules.Asked) → asked ≡ waiting_in rows → AllOf (λ (r : rules.Request). IsNamed r.asked) rows → AllOf IsNamed asked
waiting-named rows asked same a = subst (AllOf IsNamed) (sym same) (among rows a)
  where
    among : (rs : List rules.Request) → AllOf (λ (r : rules.Request). IsNamed r.asked) rs → AllOf IsNamed (waiting_in rs)
    among [] h = tt
    among (r ∷ rs) h = pick (is_waiting r.stage) (among rs h.1)
      where
        pick : (b : Bool) → AllOf IsNamed (waiting_in rs) → AllOf IsNamed (map (λ (x : rules.Request). x.asked) (cond b (r ∷ filter (λ (x : rules.Request). is_waiting x.stage) rs) (filter (λ (x : rules.Request). is_waiting x.stage) rs)))
        pick true go = (h.0, go)
        pick false go = go
