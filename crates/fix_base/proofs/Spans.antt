-- A whole shape at the front of bytes.
use Rattle.std.proofs.Common.{◌≡◌, ℕ, ◌+◌, ◌-◌, ◌<◌, ◌≤◌, List, [], ◌∷◌, ◌++◌, length, take, refl, sym, ap, ◌∙◌, subst, append_assoc, arith}
use Rattle.std.proofs.lemmas.List.{length-append, take_at}
use Rattle.fix_base.specs.declared.no_match.NoMatch.{NoMatch}
use Rattle.fix_base.specs.Front.{IsPartOf, Begins, Stops, SomeOf, ThenOf, ◌▹◌}
use Rattle.fix_base.specs.Frame.{IsLine, IsVersion, IsLengthOf, IsSumOf, IsHead, IsBody, IsTrailer}
use Rattle.fix_base.specs.Shape.{Parts, HasShape, IsShape}
use Rattle.fix_base.proofs.Fronts.{IsPrefixFree, rest_is, first_stops, second_stops, stops_first, stops_second, stops_same}
use Rattle.fix_base.proofs.Places.{head_free, body_free, trailer_free, some_body, some_trailer}

abbrev Tail : ℕ → List ℕ → Type 0
Tail n = IsBody n ▹ SomeOf IsTrailer

abbrev Chain : List ℕ → Type 0
Chain = ThenOf IsHead Tail

to_shape : (text : List ℕ) → Chain text → IsShape text
to_shape text s =
    let t = s.is_second in (
      record { before_sum = s.first ++ t.first; body = t.first; sum = t.is_second.0 },
      record {
        len = s.value;
        head = s.first;
        trailer = t.second;
        is_head = s.is_first;
        is_body = t.is_first;
        is_trailer = t.is_second.1;
        front = refl;
        spelled = s.spelled ∙ ap (λ (w : List ℕ). s.first ++ w) t.spelled ∙ sym (append_assoc s.first t.first t.second);
      },
    )

to_chain : (text : List ℕ) → IsShape text → Chain text
to_chain text p =
    let s = p.1 in
    record {
      value = s.len;
      first = s.head;
      second = p.0.body ++ s.trailer;
      is_first = s.is_head;
      is_second = record { value = tt; first = p.0.body; second = s.trailer; is_first = s.is_body; is_second = (p.0.sum, s.is_trailer); spelled = refl };
      spelled = s.spelled ∙ ap (λ (w : List ℕ). w ++ s.trailer) s.front ∙ append_assoc s.head p.0.body s.trailer;
    }

some_tail : (n : ℕ) → (b : List ℕ) × Tail n b
some_tail n =
    let b = some_body n in
    (b.0 ++ some_trailer.0, record { value = tt; first = b.0; second = some_trailer.0; is_first = b.1; is_second = some_trailer.1; spelled = refl })

shape_stops : (bytes : List ℕ) (stop : NoMatch) → Stops Chain bytes stop → Stops IsShape bytes stop
shape_stops bytes stop h = stops_same Chain IsShape bytes stop to_shape to_chain h

pub span_stops_1 : (bytes : List ℕ) (stop : NoMatch) → Stops (SomeOf IsHead) bytes stop → Stops IsShape bytes stop
span_stops_1 bytes stop h = shape_stops bytes stop (first_stops IsHead Tail bytes stop (λ n a p. some_tail n) h)

pub span_stops_2 : (n : ℕ) (bytes a : List ℕ) (stop : NoMatch) → Begins (IsHead n) bytes a → Stops (IsBody n) a stop → Stops IsShape bytes stop
span_stops_2 n bytes a stop p h = shape_stops bytes stop (second_stops IsHead Tail head_free n bytes a stop p (stops_first (IsBody n) (SomeOf IsTrailer) a stop some_trailer h))

pub span_stops_3 : (n : ℕ) (bytes a b : List ℕ) (stop : NoMatch) → Begins (IsHead n) bytes a → Begins (IsBody n) a b → Stops (SomeOf IsTrailer) b stop → Stops IsShape bytes stop
span_stops_3 n bytes a b stop p q h = shape_stops bytes stop (second_stops IsHead Tail head_free n bytes a stop p (stops_second (IsBody n) (SomeOf IsTrailer) (body_free n) a b stop q h))

-- what is in front of the rest
pub front_is : (bytes front rest : List ℕ) → bytes ≡ front ++ rest → take (length bytes - length rest) bytes ≡ front
front_is bytes front rest e = ap (take (length bytes - length rest)) e ∙ take_at front rest (length bytes - length rest) (omega (arith, ap length e, length-append front rest))

pub span_begins : (n sum : ℕ) (bytes a b rest before_sum body : List ℕ) → Begins (IsHead n) bytes a → Begins (IsBody n) a b → Begins (IsTrailer sum) b rest → before_sum ≡ take (length bytes - length b) bytes → body ≡ take (length a - length b) a
    → Begins (HasShape (record { before_sum = before_sum; body = body; sum = sum })) bytes rest
span_begins n sum bytes a b rest before_sum body p q t before_is body_is =
    let both : bytes ≡ (p.text ++ q.text) ++ b = p.spelled ∙ ap (λ (w : List ℕ). p.text ++ w) q.spelled ∙ sym (append_assoc p.text q.text b) in
    let front : before_sum ≡ p.text ++ q.text = before_is ∙ front_is bytes (p.text ++ q.text) b both in
    let inner : body ≡ q.text = body_is ∙ front_is a q.text b q.spelled in
    record {
      text = before_sum ++ t.text;
      is = record { len = n; head = p.text; trailer = t.text; is_head = p.is; is_body = subst (IsBody n) (sym inner) q.is; is_trailer = t.is; front = front ∙ ap (λ (w : List ℕ). p.text ++ w) (sym inner); spelled = refl };
      spelled = both ∙ ap (λ (w : List ℕ). w ++ b) (sym front) ∙ ap (λ (w : List ℕ). before_sum ++ w) t.spelled ∙ sym (append_assoc before_sum t.text rest);
    }

-- the parts one after another
flat : (p : Parts) (a u : List ℕ) (s : HasShape p a) → a ++ u ≡ s.head ++ (p.body ++ (s.trailer ++ u))
flat p a u s =
    ap (λ (w : List ℕ). w ++ u) (s.spelled ∙ ap (λ (w : List ℕ). w ++ s.trailer) s.front) ∙ append_assoc (s.head ++ p.body) s.trailer u ∙ append_assoc s.head p.body (s.trailer ++ u)

parts_eq : (p q : Parts) → p.before_sum ≡ q.before_sum → p.body ≡ q.body → p.sum ≡ q.sum → p ≡ q
parts_eq p q e f g =
    let first : p ≡ record { before_sum = q.before_sum; body = p.body; sum = p.sum } = ap (λ (w : List ℕ). record { before_sum = w; body = p.body; sum = p.sum }) e in
    let second : record { before_sum = q.before_sum; body = p.body; sum = p.sum } ≡ record { before_sum = q.before_sum; body = q.body; sum = p.sum } = ap (λ (w : List ℕ). record { before_sum = q.before_sum; body = w; sum = p.sum }) f in
    first ∙ second ∙ ap (λ (n : ℕ). record { before_sum = q.before_sum; body = q.body; sum = n }) g

shape_eq : (p q : Parts) (a b u v : List ℕ) → HasShape p a → HasShape q b → a ++ u ≡ b ++ v → (a ≡ b) × (p ≡ q)
shape_eq p q a b u v s t e =
    let whole : s.head ++ (p.body ++ (s.trailer ++ u)) ≡ t.head ++ (q.body ++ (t.trailer ++ v)) = sym (flat p a u s) ∙ e ∙ flat q b v t in
    let head : s.head ≡ t.head = head_free.same s.len t.len s.head t.head _ _ s.is_head t.is_head whole in
    let len : s.len ≡ t.len = head_free.value s.len t.len t.head (subst (IsHead s.len) head s.is_head) t.is_head in
    let behind_head : p.body ++ (s.trailer ++ u) ≡ q.body ++ (t.trailer ++ v) = rest_is s.head t.head _ _ whole head in
    let body : p.body ≡ q.body = (body_free t.len).same tt tt p.body q.body _ _ (subst (λ n. IsBody n p.body) len s.is_body) t.is_body behind_head in
    let behind_body : s.trailer ++ u ≡ t.trailer ++ v = rest_is p.body q.body _ _ behind_head body in
    let trailer : s.trailer ≡ t.trailer = trailer_free.same p.sum q.sum s.trailer t.trailer u v s.is_trailer t.is_trailer behind_body in
    let sum : p.sum ≡ q.sum = trailer_free.value p.sum q.sum t.trailer (subst (IsTrailer p.sum) trailer s.is_trailer) t.is_trailer in
    let before : p.before_sum ≡ q.before_sum = s.front ∙ ap (λ (w : List ℕ). w ++ p.body) head ∙ ap (λ (w : List ℕ). t.head ++ w) body ∙ sym t.front in
    let text : a ≡ b = s.spelled ∙ ap (λ (w : List ℕ). w ++ s.trailer) before ∙ ap (λ (w : List ℕ). q.before_sum ++ w) trailer ∙ sym t.spelled in
    (text, parts_eq p q before body sum)

-- a text has one shape, and none is a front of another
pub shape_free : IsPrefixFree HasShape
shape_free = record {
  same = λ p q a b u v s t e.
      let whole = shape_eq p q a b u v s t e in
      whole.0;
  value = λ p q a s t. (shape_eq p q a a [] [] s t refl).1;
}

-- a shape has a byte
pub shape_long : (parts : Parts) (text : List ℕ) → HasShape parts text → 0 < length text
shape_long parts text s =
    let h = s.is_head in
    omega (arith, ap length s.spelled, ap length s.front, ap length h.spelled, ap length h.is_first, length-append parts.before_sum s.trailer, length-append s.head parts.body, length-append h.first h.second)

-- the same whatever the parts are
pub any_shape_free : IsPrefixFree (λ (_ : Unit {0}). IsShape)
any_shape_free = record { same = λ _ _ a b u v s t e. shape_free.same s.0 t.0 a b u v s.1 t.1 e; value = λ _ _ a s t. refl }

-- the most bytes of each part
line_short : (P : List ℕ → Type 0) (n : ℕ) (text : List ℕ) → ((v : List ℕ) → P v → length v ≤ n) → IsLine P text → length text ≤ n + 1
line_short P n text most l = omega (arith, most l.value l.is, ap length l.spelled, length-append l.value (1 ∷ []))

head_short : (n : ℕ) (text : List ℕ) → IsHead n text → length text ≤ 29
head_short n text h =
    let version = line_short IsVersion 13 h.is_second.first (λ v p. p) h.is_second.is_first in
    let behind = h.is_second.is_second in
    let number = line_short (IsLengthOf n) 7 behind.second (λ v p. p.few) behind.is_second in
    omega (arith, ap length h.spelled, length-append h.first h.second, ap length h.is_first, ap length h.is_second.spelled, length-append h.is_second.first h.is_second.second, version, ap length behind.spelled, length-append behind.first behind.second, ap length behind.is_first, number)

length_high : (n : ℕ) (text : List ℕ) → IsHead n text → (5 ≤ n) × (n ≤ 1048576)
length_high n text h = let l = h.is_second.is_second.is_second in (l.is.low, l.is.high)

body_long : (n : ℕ) (text : List ℕ) → 5 ≤ n → IsBody n text → length text ≡ n
body_long n text low b =
    let t = b.is_second in
    omega (arith, ap length b.spelled, length-append b.first b.second, ap length b.is_first, ap length t.spelled, length-append t.first t.second, t.is_first, ap length t.is_second)

trailer_short : (n : ℕ) (text : List ℕ) → IsTrailer n text → length text ≤ 7
trailer_short n text t =
    let sum = line_short (IsSumOf n) 3 t.second (λ v p. omega (arith, p.three)) t.is_second in
    omega (arith, ap length t.spelled, length-append t.first t.second, ap length t.is_first, sum)

-- a shape has at most 29 bytes of head, 1,048,576 of body and 7 of trailer
pub shape_short : (parts : Parts) (text : List ℕ) → HasShape parts text → length text ≤ 1048612
shape_short parts text s =
    let range = length_high s.len s.head s.is_head in
    omega (arith, head_short s.len s.head s.is_head, range.1, body_long s.len parts.body range.0 s.is_body, trailer_short parts.sum s.trailer s.is_trailer, ap length s.spelled, length-append parts.before_sum s.trailer, ap length s.front, length-append s.head parts.body)

-- a front of one has fewer
pub part_short : (bytes : List ℕ) → IsPartOf IsShape bytes → length bytes < 1048612
part_short bytes h = omega (arith, h.nonempty, shape_short h.is.0 (bytes ++ h.missing) h.is.1, length-append bytes h.missing)
