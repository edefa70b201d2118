-- The definitions of the codes carried out on values that are published or were written by hand.
use Rattle.std.proofs.Common.{◌≡◌, [], ◌∷◌, take, replicate, Some, None, refl}
use Rattle.std.specs.Option.{option_map}
use Rattle.tc_octets.specs.Bits.{octet_bits}
use Rattle.tc_octets.specs.Crc.{crc_of, crc_step}
use Rattle.tc_octets.specs.Codeblocks.{bch_step, error_control_of, is_codeblock, sent_of, with_one_turned}
use Rattle.tc_octets.specs.Randomizer.{next_octet, randomized, window_step}
use Rattle.tc_octets.specs.declared.codeblocks.Mode.TheVariants.{Detecting, Correcting}

-- the text 123456789
case_1 : crc_of (0x31 ∷ 0x32 ∷ 0x33 ∷ 0x34 ∷ 0x35 ∷ 0x36 ∷ 0x37 ∷ 0x38 ∷ 0x39 ∷ []) ≡ 0x29b1
unfolding octet_bits crc_step
case_1 = refl

-- published
case_2 : crc_of (0x00 ∷ 0x00 ∷ []) ≡ 0x1d0f
unfolding octet_bits crc_step
case_2 = refl

-- published
case_3 : crc_of (0x00 ∷ 0x00 ∷ 0x00 ∷ []) ≡ 0xcc9c
unfolding octet_bits crc_step
case_3 = refl

-- published
case_4 : crc_of (0xab ∷ 0xcd ∷ 0xef ∷ 0x01 ∷ []) ≡ 0x04a2
unfolding octet_bits crc_step
case_4 = refl

-- published
case_5 : crc_of (0x14 ∷ 0x56 ∷ 0xf8 ∷ 0x9a ∷ 0x00 ∷ 0x01 ∷ []) ≡ 0x7fd5
unfolding octet_bits crc_step
case_5 = refl

-- no octet: the preset
case_6 : crc_of ([]) ≡ 0xffff
unfolding octet_bits crc_step
case_6 = refl

-- one octet
case_7 : crc_of (0x00 ∷ []) ≡ 0xe1f0
unfolding octet_bits crc_step
case_7 = refl

-- one octet
case_8 : crc_of (0xff ∷ []) ≡ 0xff00
unfolding octet_bits crc_step
case_8 = refl

-- two octets: 0
case_9 : crc_of (0xff ∷ 0xff ∷ []) ≡ 0x0000
unfolding octet_bits crc_step
case_9 = refl

-- eight zeros
case_10 : crc_of (0x00 ∷ 0x00 ∷ 0x00 ∷ 0x00 ∷ 0x00 ∷ 0x00 ∷ 0x00 ∷ 0x00 ∷ []) ≡ 0x313e
unfolding octet_bits crc_step
case_10 = refl

-- eight octets with 01102100, the generator itself, laid over them: the same value as before. An error of this form is not found
case_11 : crc_of (0x00 ∷ 0x00 ∷ 0x00 ∷ 0x00 ∷ 0x01 ∷ 0x10 ∷ 0x21 ∷ 0x00 ∷ []) ≡ 0x313e
unfolding octet_bits crc_step
case_11 = refl

-- codeblock, encode, zeros
case_12 : error_control_of (0x00 ∷ 0x00 ∷ 0x00 ∷ 0x00 ∷ 0x00 ∷ 0x00 ∷ 0x00 ∷ []) ≡ 0xfe
unfolding octet_bits bch_step
case_12 = refl

-- codeblock, encode, ones
case_13 : error_control_of (0xff ∷ 0xff ∷ 0xff ∷ 0xff ∷ 0xff ∷ 0xff ∷ 0xff ∷ []) ≡ 0x86
unfolding octet_bits bch_step
case_13 = refl

-- codeblock, encode, the last bit: the parity is the generator without its first term, turned round
case_14 : error_control_of (0x00 ∷ 0x00 ∷ 0x00 ∷ 0x00 ∷ 0x00 ∷ 0x00 ∷ 0x01 ∷ []) ≡ 0x74
unfolding octet_bits bch_step
case_14 = refl

-- codeblock, encode, the first bit
case_15 : error_control_of (0x80 ∷ 0x00 ∷ 0x00 ∷ 0x00 ∷ 0x00 ∷ 0x00 ∷ 0x00 ∷ []) ≡ 0x3a
unfolding octet_bits bch_step
case_15 = refl

-- codeblock, encode, fill
case_16 : error_control_of (0x55 ∷ 0x55 ∷ 0x55 ∷ 0x55 ∷ 0x55 ∷ 0x55 ∷ 0x55 ∷ []) ≡ 0xd6
unfolding octet_bits bch_step
case_16 = refl

-- codeblock, encode, the end of a frame with fill
case_17 : error_control_of (0x22 ∷ 0xf6 ∷ 0x1c ∷ 0x50 ∷ 0x55 ∷ 0x55 ∷ 0x55 ∷ []) ≡ 0x30
unfolding octet_bits bch_step
case_17 = refl

-- detecting, decode, whole
case_18 : option_map (take 7) (sent_of Detecting (0x30 ∷ 0x01 ∷ 0x0c ∷ 0x07 ∷ 0x00 ∷ 0x00 ∷ 0x00 ∷ 0x8a ∷ []))
    ≡ Some (0x30 ∷ 0x01 ∷ 0x0c ∷ 0x07 ∷ 0x00 ∷ 0x00 ∷ 0x00 ∷ [])
unfolding octet_bits bch_step is_codeblock with_one_turned sent_of
case_18 = refl

-- correcting, decode, whole
case_19 : option_map (take 7) (sent_of Correcting (0x30 ∷ 0x01 ∷ 0x0c ∷ 0x07 ∷ 0x00 ∷ 0x00 ∷ 0x00 ∷ 0x8a ∷ []))
    ≡ Some (0x30 ∷ 0x01 ∷ 0x0c ∷ 0x07 ∷ 0x00 ∷ 0x00 ∷ 0x00 ∷ [])
unfolding octet_bits bch_step is_codeblock with_one_turned sent_of
case_19 = refl

-- detecting, decode, bit 0 turned
case_20 : sent_of Detecting (0xb0 ∷ 0x01 ∷ 0x0c ∷ 0x07 ∷ 0x00 ∷ 0x00 ∷ 0x00 ∷ 0x8a ∷ []) ≡ None
unfolding octet_bits bch_step is_codeblock with_one_turned sent_of
case_20 = refl

-- detecting, decode, bit 55, the last of the information, turned
case_21 : sent_of Detecting (0x30 ∷ 0x01 ∷ 0x0c ∷ 0x07 ∷ 0x00 ∷ 0x00 ∷ 0x01 ∷ 0x8a ∷ []) ≡ None
unfolding octet_bits bch_step is_codeblock with_one_turned sent_of
case_21 = refl

-- detecting, decode, bit 62, the last of the parity, turned
case_22 : sent_of Detecting (0x30 ∷ 0x01 ∷ 0x0c ∷ 0x07 ∷ 0x00 ∷ 0x00 ∷ 0x00 ∷ 0x88 ∷ []) ≡ None
unfolding octet_bits bch_step is_codeblock with_one_turned sent_of
case_22 = refl

-- correcting, decode, bit 62, the last of the parity, turned
case_23 : option_map (take 7) (sent_of Correcting (0x30 ∷ 0x01 ∷ 0x0c ∷ 0x07 ∷ 0x00 ∷ 0x00 ∷ 0x00 ∷ 0x88 ∷ []))
    ≡ Some (0x30 ∷ 0x01 ∷ 0x0c ∷ 0x07 ∷ 0x00 ∷ 0x00 ∷ 0x00 ∷ [])
unfolding octet_bits bch_step is_codeblock with_one_turned sent_of
case_23 = refl

-- detecting, decode, bit 63, the filler, turned
case_24 : sent_of Detecting (0x30 ∷ 0x01 ∷ 0x0c ∷ 0x07 ∷ 0x00 ∷ 0x00 ∷ 0x00 ∷ 0x8b ∷ []) ≡ None
unfolding octet_bits bch_step is_codeblock with_one_turned sent_of
case_24 = refl

-- correcting, decode, bit 63, the filler, turned
case_25 : option_map (take 7) (sent_of Correcting (0x30 ∷ 0x01 ∷ 0x0c ∷ 0x07 ∷ 0x00 ∷ 0x00 ∷ 0x00 ∷ 0x8b ∷ []))
    ≡ Some (0x30 ∷ 0x01 ∷ 0x0c ∷ 0x07 ∷ 0x00 ∷ 0x00 ∷ 0x00 ∷ [])
unfolding octet_bits bch_step is_codeblock with_one_turned sent_of
case_25 = refl

-- detecting, decode, bits 3 and 40 turned
case_26 : sent_of Detecting (0x20 ∷ 0x01 ∷ 0x0c ∷ 0x07 ∷ 0x00 ∷ 0x80 ∷ 0x00 ∷ 0x8a ∷ []) ≡ None
unfolding octet_bits bch_step is_codeblock with_one_turned sent_of
case_26 = refl

-- detecting, decode, bit 5 and the filler turned
case_27 : sent_of Detecting (0x34 ∷ 0x01 ∷ 0x0c ∷ 0x07 ∷ 0x00 ∷ 0x00 ∷ 0x00 ∷ 0x8b ∷ []) ≡ None
unfolding octet_bits bch_step is_codeblock with_one_turned sent_of
case_27 = refl

-- detecting, decode, bits 0, 1 and 2 turned: found, and mended wrongly
case_28 : sent_of Detecting (0xd0 ∷ 0x01 ∷ 0x0c ∷ 0x07 ∷ 0x00 ∷ 0x00 ∷ 0x00 ∷ 0x8a ∷ []) ≡ None
unfolding octet_bits bch_step is_codeblock with_one_turned sent_of
case_28 = refl

-- detecting, decode, bits (0, 1, 2, 39) turned: four errors that no block decoder finds
case_29 : option_map (take 7) (sent_of Detecting (0xd0 ∷ 0x01 ∷ 0x0c ∷ 0x07 ∷ 0x01 ∷ 0x00 ∷ 0x00 ∷ 0x8a ∷ []))
    ≡ Some (0xd0 ∷ 0x01 ∷ 0x0c ∷ 0x07 ∷ 0x01 ∷ 0x00 ∷ 0x00 ∷ [])
unfolding octet_bits bch_step is_codeblock with_one_turned sent_of
case_29 = refl

-- detecting, decode, the tail sequence fails
case_30 : sent_of Detecting (0xc5 ∷ 0xc5 ∷ 0xc5 ∷ 0xc5 ∷ 0xc5 ∷ 0xc5 ∷ 0xc5 ∷ 0x79 ∷ []) ≡ None
unfolding octet_bits bch_step is_codeblock with_one_turned sent_of
case_30 = refl

-- detecting, decode, the tail with its filler bit turned
case_31 : sent_of Detecting (0xc5 ∷ 0xc5 ∷ 0xc5 ∷ 0xc5 ∷ 0xc5 ∷ 0xc5 ∷ 0xc5 ∷ 0x78 ∷ []) ≡ None
unfolding octet_bits bch_step is_codeblock with_one_turned sent_of
case_31 = refl

-- detecting, decode, the tail with bits 0 and 9 turned
case_32 : sent_of Detecting (0x45 ∷ 0x85 ∷ 0xc5 ∷ 0xc5 ∷ 0xc5 ∷ 0xc5 ∷ 0xc5 ∷ 0x79 ∷ []) ≡ None
unfolding octet_bits bch_step is_codeblock with_one_turned sent_of
case_32 = refl

-- detecting, decode, idle, eight 55, fails
case_33 : sent_of Detecting (0x55 ∷ 0x55 ∷ 0x55 ∷ 0x55 ∷ 0x55 ∷ 0x55 ∷ 0x55 ∷ 0x55 ∷ []) ≡ None
unfolding octet_bits bch_step is_codeblock with_one_turned sent_of
case_33 = refl

-- detecting, decode, zeros: no codeblock, one wrong bit for the mending decoder
case_34 : sent_of Detecting (0x00 ∷ 0x00 ∷ 0x00 ∷ 0x00 ∷ 0x00 ∷ 0x00 ∷ 0x00 ∷ 0x00 ∷ []) ≡ None
unfolding octet_bits bch_step is_codeblock with_one_turned sent_of
case_34 = refl

-- detecting, decode, aa
case_35 : sent_of Detecting (0xaa ∷ 0xaa ∷ 0xaa ∷ 0xaa ∷ 0xaa ∷ 0xaa ∷ 0xaa ∷ 0xaa ∷ []) ≡ None
unfolding octet_bits bch_step is_codeblock with_one_turned sent_of
case_35 = refl

-- randomizer, its first octets
case_36 : randomized (replicate 64 0) ≡ 0xff ∷ 0x39 ∷ 0x9e ∷ 0x5a ∷ 0x68 ∷ 0xe9 ∷ 0x06 ∷ 0xf5 ∷ 0x6c ∷ 0x89 ∷ 0x2f ∷ 0xa1 ∷ 0x31 ∷ 0x5e ∷ 0x08 ∷ 0xc0
    ∷ 0x52 ∷ 0xa8 ∷ 0xbb ∷ 0xae ∷ 0x4e ∷ 0xc2 ∷ 0xc7 ∷ 0xed ∷ 0x66 ∷ 0xdc ∷ 0x38 ∷ 0xd4 ∷ 0xf8 ∷ 0x86 ∷ 0x50 ∷ 0x3d ∷ 0xfe ∷ 0x73 ∷ 0x3c ∷ 0xb4
    ∷ 0xd1 ∷ 0xd2 ∷ 0x0d ∷ 0xea ∷ 0xd9 ∷ 0x12 ∷ 0x5f ∷ 0x42 ∷ 0x62 ∷ 0xbc ∷ 0x11 ∷ 0x80 ∷ 0xa5 ∷ 0x51 ∷ 0x77 ∷ 0x5c ∷ 0x9d ∷ 0x85 ∷ 0x8f ∷ 0xda
    ∷ 0xcd ∷ 0xb8 ∷ 0x71 ∷ 0xa9 ∷ 0xf1 ∷ 0x0c ∷ 0xa0 ∷ 0x7b ∷ []
unfolding next_octet window_step
case_36 = refl

-- randomizer, of octets
case_37 : randomized (0x30 ∷ 0x01 ∷ 0x0c ∷ 0x07 ∷ 0x00 ∷ 0x00 ∷ []) ≡ 0xcf ∷ 0x38 ∷ 0x92 ∷ 0x5d ∷ 0x68 ∷ 0xe9 ∷ []
unfolding next_octet window_step
case_37 = refl
